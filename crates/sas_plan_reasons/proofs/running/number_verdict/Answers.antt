-- Each verdict is that of its fault.
use Rattle.sas_plan_reasons.proofs.Imports.{inl, inr, IfOk-weaker}
use Rattle.sas_plan_reasons.proofs.running.number_verdict.Goals as goal

pub returns-in-None : goal.returns-in-None
returns-in-None c = rw c.in-None.is (IfOk-weaker c.accept_plan.result _ _ (λ verdict is p s run ends. inl (ends.0, is)) c.accept_plan.ensures)

pub returns-in-Some : goal.returns-in-Some
returns-in-Some c = rw c.in-Some.is (IfOk-weaker c.answer_number_fault.result _ _ (λ verdict is p s run ends. inr (c.in-Some.fault, ends.0, is)) c.answer_number_fault.ensures)
