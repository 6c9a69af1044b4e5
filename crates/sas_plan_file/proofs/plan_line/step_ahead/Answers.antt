use Rattle.sas_plan_file.proofs.Imports.{arith}
use Rattle.sas_plan_file.proofs.PlanAhead.{step_before_end}
use Rattle.sas_plan_file.proofs.plan_line.step_ahead.Goals as goal

pub returns : goal.returns
returns g c =
    let name = c.in_ok-name in
    step_before_end c.args.bytes.now c.in_ok-end.end (omega (arith, c.in_ok-end.ensures.0), c.in_ok-end.ensures.1) name.name.now name.ensures.1 name.ensures.0 c.in_ok-rest.rest.now c.in_ok-rest.ensures
