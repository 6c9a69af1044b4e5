use Rattle.sas_answers.proofs.Imports.{arith, common_steps}
use Rattle.sas_answers.proofs.pieces.Pieces.hold_numbered.Goals as goal

pub invariant_of-self : goal.invariant_of-self
invariant_of-self c = grind (arith, common_steps)

pub invariant_of-self-2 : goal.invariant_of-self-2
invariant_of-self-2 c = grind (arith, common_steps)
