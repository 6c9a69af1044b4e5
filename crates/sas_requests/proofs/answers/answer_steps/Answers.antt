use Rattle.sas_requests.proofs.Imports.{codes, refl, TextOf, plan_format, Yes, Output, PrintAnswer, ArePlanReasons}
use Rattle.sas_requests.proofs.FileEnds.{answers_exactly, plan_refused}
use Rattle.sas_requests.proofs.answers.answer_steps.Goals as goal

pub returns-in-Ok : goal.returns-in-Ok
returns-in-Ok g c =
    let reported : Output = record { text = c.in-Ok.text.items; status = Yes } in
    answers_exactly g.R.Read.remaining plan_format ArePlanReasons (λ b t. TextOf plan_format b t.items) (codes "plan") c.args.detail.reasons (PrintAnswer plan_format) _ _ g.W.Write.contents _ _ c.in-Ok.text reported c.write.result c.in-Ok.ensures.plain
    (λ b text. (text.0, text.1, rw text.2 refl)) c.write.ensures.writes

pub returns-in-Err : goal.returns-in-Err
returns-in-Err g c =
    plan_refused g.R.Read.remaining (λ b t. TextOf plan_format b t.items) c.args.detail.reasons _ _ g.W.Write.contents _ _ (PrintAnswer plan_format) c.in-Err.refusal c.write_plan_refusal.result c.in-Err.ensures c.write_plan_refusal.ensures.answers c.write_plan_refusal.ensures.long c.write_plan_refusal.ensures.reads
