use Rattle.sas_requests.proofs.PlanVerdicts.{judges_read, judges_refused}
use Rattle.sas_requests.proofs.verdicts.judge_input.Goals as goal

pub returns-in-Err-clause-judges : goal.returns-in-Err-clause-judges
returns-in-Err-clause-judges g c =
    let judge = c.args.judge.now in
    judges_refused g.P.Read.remaining judge.reasons judge.loaded _ _ c.in-Err.refusal c.report_on_refusal.result c.in-Err.ensures c.report_on_refusal.ensures.ok c.report_on_refusal.ensures.long.0 c.report_on_refusal.ensures.writes

pub returns-in_ok-report_on-in-Ok-clause-judges : goal.returns-in_ok-report_on-in-Ok-clause-judges
returns-in_ok-report_on-in-Ok-clause-judges g c =
    let judge = c.args.judge.now in
    let verdict = c.in_ok-report_on-in-Ok.ensures.verdict in
    judges_read g.P.Read.remaining judge.reasons judge.loaded _ _ c.in-Ok.read c.in_ok-report_on-in-Ok.field-0 c.in-Ok.ensures.plain verdict.0 verdict.1
