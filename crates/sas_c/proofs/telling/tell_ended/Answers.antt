use Rattle.sas_c.proofs.Imports.{ℕ, ap, refl, ◌∙◌, Vec}
use Rattle.sas_c.proofs.Returned.{reports_same, reports_fault}
use Rattle.sas_c.proofs.telling.tell_ended.Goals as goal

pub returns-in-Ok-clause-answers : goal.returns-in-Ok-clause-answers
returns-in-Ok-clause-answers c = rw c.in-Ok.is (reports_same _ _ _ _ _ _ _ (c.as_slice.ensures.value ∙ ap (λ (v : Vec ℕ). v.items) c.into_device.ensures) c.tell.ensures.answers)

pub returns-in-Err-clause-answers : goal.returns-in-Err-clause-answers
returns-in-Err-clause-answers c = rw c.in-Err.is (reports_fault _ _ _ c.in-Err.fault _ c.fault_number.ensures (λ long. (long, refl)))
