-- There is an answer about a plan, and only one.
use Rattle.sas_answers.proofs.Imports.{◌≡◌, refl, sym, ap, ◌∙◌, inl, inr, Some, Parts, PlanParts, WellRanged, IsLayered, PlanFault, IsFaultOf, some_verdict, valid_has_no_fault, fault_is_one, Output, valid_answer, invalid_answer, VerdictAnswer}
use Rattle.sas_run.specs.declared.plan_check.PlanFault.TheVariants.{Memory}
use Rattle.sas_answers.proofs.AnswerLaws.{OneAnswer, SomeAnswer}

pub one_verdict_answer : (p : Parts) → IsLayered p → OneAnswer (VerdictAnswer p)
one_verdict_answer p layered plan o q a b = elim a [
  | inl x ↦ elim b [
    | inl y ↦ x.1 ∙ sym y.1
    | inr y ↦ absurd (valid_has_no_fault p plan x.0.0 y.0 layered x.0.1 y.1)
  ]
  | inr x ↦ elim b [
    | inl y ↦ absurd (valid_has_no_fault p plan y.0.0 x.0 layered y.0.1 x.1)
    | inr y ↦
        (let same : Some o ≡ Some q = sym x.2 ∙ ap (invalid_answer plan.cost) (fault_is_one p plan x.0 y.0 layered x.1 y.1) ∙ y.2 in
        let it : o ≡ q = cc in
        it)
  ]
]

-- each fault has an answer
fault_answered : (p : Parts) (plan : PlanParts) (fault : PlanFault) → IsFaultOf p plan fault → (o : Output) × (invalid_answer plan.cost fault ≡ Some o)
fault_answered p plan Memory f = absurd f
fault_answered p plan _ f = (_, refl)

pub some_verdict_answer : (p : Parts) → WellRanged p → IsLayered p → SomeAnswer (VerdictAnswer p)
some_verdict_answer p ranged layered plan none = elim (some_verdict p plan ranged layered) [
  | inl valid ↦ none (valid_answer plan) (inl (valid, refl))
  | inr fault ↦ (let answered = fault_answered p plan fault.0 fault.1 in none answered.0 (inr (fault.0, fault.1, answered.1)))
]
