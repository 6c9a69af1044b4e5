use Rattle.sas_answers.proofs.Imports.{arith, common_steps}
use Rattle.sas_answers.proofs.layers.part_text.Goals as goal

pub returns : goal.returns
returns c = grind (arith, common_steps)
