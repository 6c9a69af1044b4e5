use Rattle.sas_task_file.proofs.AheadReading.{number_is_ahead}
use Rattle.sas_task_file.proofs.LinesReading.{two_lines}
use Rattle.sas_task_file.proofs.sections.read_operator_end.Goals as goal

pub returns : goal.returns
returns g c = two_lines (number_is_ahead c.args.bytes.now c.in_ok-cost.rest.now c.in_ok-cost.cost c.in_ok-cost.ensures) c.in_ok-rest.ensures
