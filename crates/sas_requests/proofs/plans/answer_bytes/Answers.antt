-- The plan is read of the bytes, or refused.
use Rattle.sas_requests.proofs.Imports.{codes, plan_format, VerdictBy, ArePlanReasons}
use Rattle.sas_requests.proofs.FileEnds.{bytes_value, plan_bytes_refused}
use Rattle.sas_requests.proofs.plans.answer_bytes.Goals as goal

pub returns-in-Ok-clause-answers : goal.returns-in-Ok-clause-answers
returns-in-Ok-clause-answers g c =
    let p = c.args.loaded.now in
    bytes_value plan_format ArePlanReasons (codes "plan") g.W.Write.contents _ _ c.args.detail.reasons (VerdictBy c.args.detail p) c.args.plan.now c.in-Ok.read c.answer-ended.result c.in-Ok.ensures.read c.answer-ended.ensures.writes

pub returns-in-Err-clause-answers : goal.returns-in-Err-clause-answers
returns-in-Err-clause-answers g c =
    let p = c.args.loaded.now in
    plan_bytes_refused g.W.Write.contents _ _ c.args.detail.reasons (VerdictBy c.args.detail p) c.args.plan.now c.in-Err.refusal c.write_plan_refusal.result c.in-Err.ensures.fault c.in-Err.ensures.explained
    c.write_plan_refusal.ensures.answers c.write_plan_refusal.ensures.long
