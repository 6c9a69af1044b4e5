use Rattle.sas_task_file.proofs.Imports.{arith, common_steps}
use Rattle.sas_task_file.proofs.ahead.change_in_line.Goals as goal

pub returns : goal.returns
returns g c = grind (arith, common_steps)
