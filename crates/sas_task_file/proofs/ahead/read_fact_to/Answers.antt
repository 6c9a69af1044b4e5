use Rattle.sas_task_file.proofs.AheadReading.{two_numbers_ahead}
use Rattle.sas_task_file.proofs.ahead.read_fact_to.Goals as goal

pub returns : goal.returns
returns g c = two_numbers_ahead c.args.bytes.now c.in_ok-var.rest.now c.in_ok-value.rest.now (record { var = c.in_ok-var.var; value = c.in_ok-value.value }) c.args.end c.in_ok-var.ensures.ahead c.in_ok-value.ensures.ahead
