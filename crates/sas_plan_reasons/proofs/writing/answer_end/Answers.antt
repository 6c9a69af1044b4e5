-- The answer about the plan is that of its run.
use Rattle.sas_plan_reasons.proofs.Imports.{IfOk-weaker}
use Rattle.sas_plan_reasons.proofs.Answering.{why_ends}
use Rattle.sas_plan_reasons.proofs.writing.answer_end.Goals as goal

pub returns-then-with_reasons-clause-answer : goal.returns-then-with_reasons-clause-answer
returns-then-with_reasons-clause-answer g c =
    let p = c.args.named.now.task.now in
    let plan = c.args.named.now.plan.now in
    rw c.if-with_reasons.true (IfOk-weaker c.explain_end.result _ _ (λ found made run ends. why_ends p plan run c.args.end.now.fault _ c.requires.prepared.layered ends made) c.explain_end.ensures.answer)
