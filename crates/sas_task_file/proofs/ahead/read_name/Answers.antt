use Rattle.sas_task_file.proofs.AheadReading.{name_is_ahead}
use Rattle.sas_task_file.proofs.Imports.{arith}
use Rattle.sas_task_file.proofs.ahead.read_name.Goals as goal

pub returns : goal.returns
returns g c = name_is_ahead c.args.bytes.now c.in_ok-rest.rest.now c.in_ok-end.end (omega (arith, c.if-end-eq0.false)) (omega (arith, c.in_ok-end.ensures.0)) c.in_ok-end.ensures.1 c.in_ok-rest.ensures
