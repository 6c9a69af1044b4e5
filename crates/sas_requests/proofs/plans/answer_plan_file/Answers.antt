use Rattle.sas_requests.proofs.Imports.{codes, ValueOf, plan_format, VerdictBy, ArePlanReasons}
use Rattle.sas_requests.proofs.FileEnds.{answers_value, plan_refused}
use Rattle.sas_requests.proofs.plans.answer_plan_file.Goals as goal

pub returns-in-Ok : goal.returns-in-Ok
returns-in-Ok g c =
    let detail = c.args.detail in
    let p = c.args.layered.now in
    let plan = c.in-Ok.read in
    answers_value g.P.Read.remaining plan_format ArePlanReasons (ValueOf plan_format) (codes "plan") detail.reasons (VerdictBy detail p) _ _ g.W.Write.contents _ _ plan (VerdictBy detail p plan) (λ b value o is. (plan, value, is)) c.answer_plan-ended.result c.in-Ok.ensures.plain c.answer_plan-ended.ensures

pub returns-in-Err : goal.returns-in-Err
returns-in-Err g c =
    plan_refused g.P.Read.remaining (ValueOf plan_format) c.args.detail.reasons _ _ g.W.Write.contents _ _ (VerdictBy c.args.detail c.args.layered.now) c.in-Err.refusal c.write_plan_refusal.result c.in-Err.ensures c.write_plan_refusal.ensures.answers c.write_plan_refusal.ensures.long c.write_plan_refusal.ensures.reads
