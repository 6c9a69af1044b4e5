-- The answer about a plan with its trace: there is one, it ends with the answer about the plan, and the costs add up.
use Rattle.sas_plan_reasons.proofs.Imports.{WellRanged, cost_of, sum_by, ◌≡◌, ℕ, Bool, true, false, List, ◌++◌, Option, Some, None, refl, sym, ◌∙◌, ap, subst, inl, inr, same_Some, Parts, PlanParts, text, IsLayered, PlanFault, Memory, IsValid, IsFaultOf, some_verdict, valid_has_no_fault, fault_is_one, Status, Yes, No, Output, valid_answer, invalid_answer, fault_words, invalid_line, Line, reasons_text, Explains, WhyVerdict, VerdictWith, run_lines, FaultAnswer, EndsWith, TraceVerdict, Run, RunEndsWith, StepsSucceed, steps_before, worded, some_run, one_run, to_fault}
use Rattle.sas_plan_reasons.proofs.WhyPlan.{one_why, some_why}

abbrev made : List ℕ → Status → Output
made bytes status = record { text = bytes; status = status }

same_made : (a b : Output) → a.text ≡ b.text → a.status ≡ b.status → a ≡ b
same_made a b texts statuses = ap (λ (bytes : List ℕ). made bytes a.status) texts ∙ ap (λ (status : Status). made b.text status) statuses

-- ---- the answer about a fault

said_no : (reasons : Bool) (p : Parts) (plan : PlanParts) (fault : PlanFault) (o : Output) → FaultAnswer reasons p plan fault o → o.status ≡ No
said_no false p plan fault o says = (worded (fault_words plan.cost fault) invalid_line o says).status
said_no true p plan fault o says = says.1

-- each fault is reported
pub some_reported : (p : Parts) (plan : PlanParts) (fault : PlanFault) → IsFaultOf p plan fault → (o : Output) × (invalid_answer plan.cost fault ≡ Some o)
some_reported p plan Memory f = absurd f
some_reported p plan _ f = (_, refl)

pub some_fault_answer : (reasons : Bool) (p : Parts) (plan : PlanParts) (fault : PlanFault) → WellRanged p → IsLayered p → IsFaultOf p plan fault → (o : Output) × FaultAnswer reasons p plan fault o
some_fault_answer false p plan fault ranged layered is = some_reported p plan fault is
some_fault_answer true p plan fault ranged layered is =
    let reported = some_reported p plan fault is in
    let why = some_why p plan fault ranged layered is in (
      record { text = reported.0.text ++ reasons_text p plan.steps why.0; status = No },
      (record { verdict = reported.0; reported = reported.1; reasons = why.0; why = why.1; whole = refl }, refl),
    )

explained_one : (p : Parts) (plan : PlanParts) (fault : PlanFault) (a b : List ℕ) → IsLayered p → Explains p plan fault a → Explains p plan fault b → a ≡ b
explained_one p plan fault a b layered x y =
    let verdict = same_Some x.verdict y.verdict (sym x.reported ∙ y.reported) in
    let reasons = one_why p plan fault x.reasons y.reasons layered x.why y.why in
    x.whole
    ∙ (ap (λ (v : Output). v.text ++ reasons_text p plan.steps x.reasons) verdict
    ∙ (ap (λ (lines : List Line). y.verdict.text ++ reasons_text p plan.steps lines) reasons ∙ sym y.whole))

pub one_fault_answer : (reasons : Bool) (p : Parts) (plan : PlanParts) (fault : PlanFault) (a b : Output) → IsLayered p → FaultAnswer reasons p plan fault a → FaultAnswer reasons p plan fault b → a ≡ b
one_fault_answer false p plan fault a b layered x y = same_Some a b (sym x ∙ y)
one_fault_answer true p plan fault a b layered x y = same_made a b (explained_one p plan fault a.text b.text layered x.0 y.0) (x.1 ∙ sym y.1)

-- ---- the answer behind a trace

-- it is that about the plan
pub ends_with_answer : (reasons : Bool) (p : Parts) (plan : PlanParts) (run : Run) (o : Output) → EndsWith reasons p plan run o → VerdictWith false reasons p plan o
ends_with_answer true p plan run o (inl x) = inl ((run.operators, x.0.0), x.1)
ends_with_answer true p plan run o (inr x) = inr (x.0, x.1.0, x.2.0, x.2.1)
ends_with_answer false p plan run o (inl x) = inl ((run.operators, x.0.0), x.1)
ends_with_answer false p plan run o (inr x) = inr (x.0, x.1.0, x.2)

pub behind_trace : (reasons : Bool) (p : Parts) (plan : PlanParts) (output : Output) → TraceVerdict reasons p plan output → (answer : Output) × VerdictWith false reasons p plan answer
    × (front : List (List ℕ)) × (output.text ≡ text front ++ answer.text) × (output.status ≡ answer.status)
behind_trace reasons p plan output trace = (trace.answer, ends_with_answer reasons p plan trace.run trace.answer trace.ends, run_lines p trace.run, trace.whole, trace.status)

-- and the answer about the plan is that of its run
pub why_ends : (p : Parts) (plan : PlanParts) (run : Run) (fault : Option PlanFault) (o : Output) → IsLayered p → RunEndsWith p plan run fault → WhyVerdict p plan o → EndsWith true p plan run o
why_ends p plan run None o layered ends (inl w) = inl (ends, w.1)
why_ends p plan run None o layered ends (inr w) = absurd (valid_has_no_fault p plan run.operators w.0 layered ends.0 w.1)
why_ends p plan run (Some fault) o layered ends (inl w) = absurd (valid_has_no_fault p plan w.0.0 fault layered w.0.1 ends.0)
why_ends p plan run (Some fault) o layered ends (inr w) =
    let it : FaultAnswer true p plan fault o = subst (λ (f : PlanFault). FaultAnswer true p plan f o) (fault_is_one p plan w.0 fault layered w.1 ends.0) (w.2, w.3) in inr (fault, ends, it)

costs_of : (reasons : Bool) (p : Parts) (plan : PlanParts) (run : Run) (o : Output) → EndsWith reasons p plan run o → o.status ≡ Yes → sum_by (cost_of p) run.operators ≡ plan.cost
costs_of reasons p plan run o (inl x) accepted = x.0.0.cost
costs_of reasons p plan run o (inr x) accepted = absurd (let apart : Yes ≡ No = sym accepted ∙ said_no reasons p plan x.0 o x.2 in cc)

pub costs_add_up : (reasons : Bool) (p : Parts) (plan : PlanParts) (output : Output) (trace : TraceVerdict reasons p plan output) → output.status ≡ Yes
    → sum_by (cost_of p) trace.run.operators ≡ plan.cost
costs_add_up reasons p plan output trace accepted = costs_of reasons p plan trace.run trace.answer trace.ends (sym trace.status ∙ accepted)

-- ---- some trace

traced : (reasons : Bool) (p : Parts) (plan : PlanParts) (run : Run) (o : Output) → StepsSucceed p run → EndsWith reasons p plan run o → (output : Output) × TraceVerdict reasons p plan output
traced reasons p plan run o through ends = (
  record { text = text (run_lines p run) ++ o.text; status = o.status },
  record { run = run; through = through; answer = o; ends = ends; whole = refl; status = refl },
)

pub some_trace : (reasons : Bool) (p : Parts) (plan : PlanParts) → WellRanged p → IsLayered p → (output : Output) × TraceVerdict reasons p plan output
some_trace reasons p plan ranged layered = elim (some_verdict p plan ranged layered) [
  | inl v ↦
      let valid = v.1 in
      let w = some_run p plan.steps v.0 valid.last valid.leads in
      traced reasons p plan w.0 (valid_answer plan) w.1 (inl ((subst (λ os. IsValid p plan os) (sym w.3) valid, w.2), refl))
  | inr v ↦
      let w = to_fault p plan v.0 v.1 in
      let a = some_fault_answer reasons p plan v.0 ranged layered v.1 in
      traced reasons p plan w.0 a.0 w.1 (inr (v.0, (v.1, w.2), a.1))
]

-- ---- one trace

ends_one : (reasons : Bool) (p : Parts) (plan : PlanParts) (a b : Run) (x y : Output) → IsLayered p → EndsWith reasons p plan a x → EndsWith reasons p plan b y → (a.steps ≡ b.steps) × (x ≡ y)
ends_one reasons p plan a b x y layered (inl v) (inl w) = (v.0.1 ∙ sym w.0.1, v.1 ∙ sym w.1)
ends_one reasons p plan a b x y layered (inl v) (inr w) = absurd (valid_has_no_fault p plan a.operators w.0 layered v.0.0 w.1.0)
ends_one reasons p plan a b x y layered (inr v) (inl w) = absurd (valid_has_no_fault p plan b.operators v.0 layered w.0.0 v.1.0)
ends_one reasons p plan a b x y layered (inr v) (inr w) =
    let same = fault_is_one p plan v.0 w.0 layered v.1.0 w.1.0 in
    (v.1.1 ∙ (ap (steps_before plan) same ∙ sym w.1.1), one_fault_answer reasons p plan w.0 x y layered (subst (λ (f : PlanFault). FaultAnswer reasons p plan f x) same v.2) w.2)

pub one_trace : (reasons : Bool) (p : Parts) (plan : PlanParts) (a b : Output) → IsLayered p → TraceVerdict reasons p plan a → TraceVerdict reasons p plan b → a ≡ b
one_trace reasons p plan a b layered x y = same_made a b texts (x.status ∙ (ap (λ (o : Output). o.status) ends.1 ∙ sym y.status))
  where
    ends : (x.run.steps ≡ y.run.steps) × (x.answer ≡ y.answer)
    ends = ends_one reasons p plan x.run y.run x.answer y.answer layered x.ends y.ends

    runs : x.run ≡ y.run
    runs = one_run p x.run y.run layered x.through y.through ends.0

    texts : a.text ≡ b.text
    texts = x.whole ∙ (ap (λ (run : Run). text (run_lines p run) ++ x.answer.text) runs
        ∙ (ap (λ (o : Output). text (run_lines p y.run) ++ o.text) ends.1 ∙ sym y.whole))
