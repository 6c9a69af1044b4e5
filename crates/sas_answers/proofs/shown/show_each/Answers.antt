use Rattle.sas_answers.proofs.Imports.{arith, common_steps}
use Rattle.sas_answers.proofs.shown.show_each.Goals as goal

pub loop-byte-preserved : goal.loop-byte-preserved
loop-byte-preserved c = grind (arith, common_steps)

pub returns-clause-places : goal.returns-clause-places
returns-clause-places c = grind (arith, common_steps)
