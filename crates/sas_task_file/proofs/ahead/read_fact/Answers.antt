use Rattle.sas_task_file.proofs.Imports.{IfSome_then}
use Rattle.sas_task_file.proofs.AheadReading.{fact_is_ahead}
use Rattle.sas_task_file.proofs.ahead.read_fact.Goals as goal

pub returns : goal.returns
returns g c = IfSome_then c.read_fact_to.result c.read_fact_to.ensures (λ found h. fact_is_ahead c.args.bytes.now found.1.now found.0 h)
