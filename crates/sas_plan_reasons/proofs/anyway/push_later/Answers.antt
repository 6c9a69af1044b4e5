-- What follows is noted.
use Rattle.sas_plan_reasons.proofs.Imports.{step_made}
use Rattle.std.proofs.lemmas.Result.{on_ok_weaker}
use Rattle.sas_plan_reasons.proofs.Behind.{noted_lines}
use Rattle.sas_plan_reasons.proofs.anyway.push_later.Goals as goal

pub returns-in-Some : goal.returns-in-Some
returns-in-Some g c = on_ok_weaker c.push_anyway.result
    (λ lines run r. noted_lines c.args.layered.now (g.P.Stepwise.says c.args.plan.now) run (step_made c.args.history.now.fault) c.args.history.now.anyway c.in-Some.anyway c.args.lines.now c.push_anyway.new.lines c.in-Some.is
    (λ failing are. rw c.steps.ensures at (lines failing are)) r.anyway)
    c.push_anyway.ensures
