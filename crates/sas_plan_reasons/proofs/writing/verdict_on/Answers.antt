-- Each verdict is that of its fault.
use Rattle.sas_plan_reasons.proofs.Imports.{inl, inr, IfOk-weaker}
use Rattle.sas_plan_reasons.proofs.writing.verdict_on.Goals as goal

pub returns-in-None : goal.returns-in-None
returns-in-None c = rw c.in-None.is (IfOk-weaker c.accept_plan.result _ _ (λ verdict is p run ends. inl (ends, is)) (rw (c.steps.ensures, c.cost.ensures) at c.accept_plan.ensures))

pub returns-in-Some : goal.returns-in-Some
returns-in-Some c = rw c.in-Some.is (IfOk-weaker c.answer_fault.result _ _ (λ verdict is p run ends. inr (c.in-Some.fault, ends, is)) (rw c.cost-in-Some.ensures at c.answer_fault.ensures))
