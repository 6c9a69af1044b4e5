-- What is said of a plan with reasons: one thing, and always something. And what is said of a task that isn't layered.
use Rattle.sas_requests.proofs.Imports.{◌≡◌, [], refl, sym, ap, subst, ◌∙◌, inl, inr, Some, true, Parts, LayerFault, PlanFault, some_verdict, valid_has_no_fault, fault_is_one, Output, layers_refusal, valid_answer, layer_reasons, with_reasons, why_refusal, refused_why, reasons_text, some_fault_answer, one_fault_answer, FaultAnswer, WhyVerdict}
use Rattle.sas_requests.proofs.RefusalReasons.{some_of}
use Rattle.sas_requests.proofs.PlanOutputs.{OneVerdictAnswer, SomeVerdictAnswer, IsRefusal, Refuses}

-- ---- the answer about a plan

pub one_why_verdict : OneVerdictAnswer WhyVerdict
one_why_verdict p layered plan o q (inl x) (inl y) = x.1 ∙ sym y.1
one_why_verdict p layered plan o q (inl x) (inr y) = absurd (valid_has_no_fault p plan x.0.0 y.0 layered x.0.1 y.1)
one_why_verdict p layered plan o q (inr x) (inl y) = absurd (valid_has_no_fault p plan y.0.0 x.0 layered y.0.1 x.1)
one_why_verdict p layered plan o q (inr x) (inr y) =
    one_fault_answer true p plan y.0 o q layered (subst (λ (f : PlanFault). FaultAnswer true p plan f o) (fault_is_one p plan x.0 y.0 layered x.1 y.1) (x.2, x.3)) (y.2, y.3)

pub some_why_verdict : SomeVerdictAnswer WhyVerdict
some_why_verdict p ranged layered plan none = elim (some_verdict p plan ranged layered) [
  | inl valid ↦ none (valid_answer plan) (inl (valid, refl))
  | inr fault ↦ (let it = some_fault_answer true p plan fault.0 ranged layered fault.1 in none it.0 (inr (fault.0, fault.1, it.1.0, it.1.1)))
]

-- ---- a task that isn't layered

-- its refusal is the one without reasons, with them behind
pub why_is : (p : Parts) (fault : LayerFault) (o : Output) → why_refusal p fault ≡ Some o → (plain : Output) × (layers_refusal fault ≡ Some plain) × (o ≡ with_reasons (reasons_text p [] (layer_reasons p fault)) plain)
why_is p fault o reported = some_of (reasons_text p [] (layer_reasons p fault)) (layers_refusal fault) o (sym reported)

refusal_is : (p : Parts) (fault : LayerFault) (o : Output) → why_refusal p fault ≡ Some o → IsRefusal fault o
refusal_is p fault o reported =
    let (plain, is, same) = why_is p fault o reported in
    record { plain = plain; is = is; status = ap (λ (x : Output). x.status) same; behind = reasons_text p [] (layer_reasons p fault); text = ap (λ (x : Output). x.text) same }

pub why_refuses : Refuses why_refusal
why_refuses = record { some = λ p fault plain is. (_, refused_why p fault plain is); reported = refusal_is }
