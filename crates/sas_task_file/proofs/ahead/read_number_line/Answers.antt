use Rattle.sas_task_file.proofs.Imports.{IfSome_then}
use Rattle.sas_task_file.proofs.AheadReading.{number_is_ahead}
use Rattle.sas_task_file.proofs.ahead.read_number_line.Goals as goal

pub returns : goal.returns
returns g c = IfSome_then c.read_number.result c.read_number.ensures (λ found h. number_is_ahead c.args.bytes.now found.1.now found.0 h)
