-- A plan is reported as valid exactly if it is.
use Rattle.std.proofs.lemmas.Grind.{common_steps}
use Rattle.sas_requests.proofs.Imports.{◌≡◌, ◌≢◌, ℕ, ◌<◌, ◌⊎◌, List, [], ◌++◌, length, codes, get_or, arith, refl, sym, ap, subst, ◌∙◌, inl, inr, Option, Some, Result, Ok, Err, option_map, Appends, none-some, append_cancel_left, Parts, PlanParts, LayerFault, IsLayered, Fault, TooLong, most_bytes, Reads, Format, ReadsAs, Laws, plan_texts, plan_format, plan_laws_hold, task_texts, Solves, Headline, word_of, refusal, refusal_line, IsAnswerOrRefusal, UnlayeredAnswer, VerdictOut, PlanOutBy, task_format, task_laws_hold, Status, Yes, No, IsValid, layer_words, layers_line, valid_answer, VerdictAnswer, Output, valid_line, fault_words, invalid_line, one_verdict_answer, worded}
use Rattle.std.proofs.lemmas.List.{append-nil}
use Rattle.sas_requests.proofs.Outputs.{refused_kind}
use Rattle.sas_requests.proofs.PlanOutputs.{IsRefusal, Refuses, not_refused}

-- ---- properties of all outputs about a plan

-- the answer is no, and its line isn't that of a valid plan
pub record IsOther (o : Output) : Type 0 where
  pub status : o.status ≡ No
  pub text : (steps cost : ℕ) → o.text ≡ valid_line steps cost → ⊥

-- the answer is yes, and its line is that of a valid plan
pub record IsSolved (b c : List ℕ) (o : Output) : Type 0 where
  pub status : o.status ≡ Yes
  pub solves : Solves b c o.text

-- no line with words of its own is that of a valid plan
pub other_words : (words : Option (List ℕ)) (line_of : List ℕ → List ℕ) (o : Output) → ((w : List ℕ) (steps cost : ℕ) → line_of w ≡ valid_line steps cost → ⊥)
    → option_map (λ w. record { text = line_of w; status = No }) words ≡ Some o → IsOther o
other_words words line_of o apart is =
    let w = worded words line_of o is in
    record { status = w.status; text = λ steps cost e. apart w.said steps cost (sym w.text ∙ e) }

not_same : (m n : ℕ) → m < n → n ≡ m → ⊥
not_same m n less same = omega arith

task_refusal_apart : (line steps cost : ℕ) (w : List ℕ) → refusal_line (codes "task") line w ≡ valid_line steps cost → ⊥
task_refusal_apart line steps cost w e = not_same 112 116 (omega arith) (ap (λ (t : List ℕ). get_or t 0 0) e)

plan_refusal_apart : (line steps cost : ℕ) (w : List ℕ) → refusal_line (codes "plan") line w ≡ valid_line steps cost → ⊥
plan_refusal_apart line steps cost w e = not_same 114 118 (omega arith) (sym (ap (λ (t : List ℕ). get_or t 5 0) e))

pub invalid_line_apart : (steps cost : ℕ) (w : List ℕ) → invalid_line w ≡ valid_line steps cost → ⊥
invalid_line_apart steps cost w e = not_same 105 118 (omega arith) (sym (ap (λ (t : List ℕ). get_or t 5 0) e))

-- nor is the refusal of a task for a fault of its layers, whatever follows it
begins_same : (front behind : List ℕ) → get_or front 0 0 ≡ 116 → get_or (front ++ behind) 0 0 ≡ 116
begins_same h1 behind is = grind (arith, common_steps)

refusal_other : (fault : LayerFault) (o : Output) → IsRefusal fault o → IsOther o
refusal_other fault o r = grind (arith, worded, layer_words, layers_line, get_or, begins_same, not_same)

-- an answer about a plan is that of a valid plan or another one; for a valid plan it is that of a
-- valid plan
pub record ReportsValid (Verdict : Parts → PlanParts → Output → Type 0) : Type 0 where
  pub reported : (p : Parts) (plan : PlanParts) (o : Output) → Verdict p plan o
      → (((operators : List ℕ) × IsValid p plan operators) × (o ≡ valid_answer plan)) ⊎ IsOther o
  pub valid : (p : Parts) (plan : PlanParts) (o : Output) (operators : List ℕ) → IsLayered p
      → IsValid p plan operators → Verdict p plan o → o ≡ valid_answer plan

-- answers without reasons have this property
pub reports_valid : ReportsValid VerdictAnswer
reports_valid = record {
  reported = λ p plan o verdict. elim verdict [
    | inl x ↦ inl x
    | inr x ↦ inr (other_words (fault_words plan.cost x.0) invalid_line o (λ w steps cost. invalid_line_apart steps cost w) x.2)
  ];
  valid = λ p plan o operators layered valid verdict. one_verdict_answer p layered plan o (valid_answer plan) verdict (inl ((operators, valid), refl));
}

-- ---- the output for a plan that solves the task

-- a text is read as its value, unless it is too long
pub text_read : {V I S : Type 0} (F : Format V I S) → Laws F → (bytes : List ℕ) (v : V) (r : Result V Fault) → Reads F.texts bytes v → ((f : Fault) → r ≡ Err f → f.kind ≢ TooLong) → ReadsAs F most_bytes bytes r → r ≡ Ok v
text_read F laws bytes v (Ok w) is short reads = ap Ok (laws.one_value bytes w v reads.0 is)
text_read F laws bytes v (Err f) is short (inl fault) = absurd (laws.fault_is_no_text most_bytes bytes [] f v fault (short f refl) (subst (λ (x : List ℕ). Reads F.texts x v) (sym (append-nil bytes)) is))
text_read F laws bytes v (Err f) is short (inr early) = absurd (early.none v is)

-- the refusal of a file isn't for its length
pub not_long : (name : List ℕ) (f : Fault) (o : Output) → Some o ≡ refusal name f → f.kind ≢ TooLong
not_long name f o is = refused_kind f.kind TooLong _ o refl (sym is)

-- ---- both

-- if a device reports its bytes, one text was written
pub sent_same : (old new : Option (List ℕ)) (before x y : List ℕ) → old ≡ Some before → Appends old new x → Appends old new y → x ≡ y
sent_same old new before x y e f g = grind (arith, common_steps, none-some, append_cancel_left)

-- the headline holds of what is sent of the output
abbrev pub SaysHeadline : List ℕ → List ℕ → Output → Type 0
SaysHeadline b c o = (old new : Option (List ℕ)) (before : List ℕ) (status : Status) → old ≡ Some before → status ≡ o.status → Appends old new o.text
    → Headline b c (Appends old new) status

-- the headline follows from what an output says, and from what it is for a plan that solves the task
module _ (b c : List ℕ) (o : Output) (reported : IsSolved b c o ⊎ IsOther o) (solved : (line : List ℕ) → Solves b c line → (o.status ≡ Yes) × (o.text ≡ line)) where
  line_solves : (steps cost : ℕ) → o.text ≡ valid_line steps cost → IsSolved b c o ⊎ IsOther o → Solves b c (valid_line steps cost)
  line_solves steps cost e (inl solved) = subst (λ (x : List ℕ). Solves b c x) e solved.solves
  line_solves steps cost e (inr other) = absurd (other.text steps cost e)

  yes_solves : o.status ≡ Yes → IsSolved b c o ⊎ IsOther o → (steps cost : ℕ) × Solves b c (valid_line steps cost)
  yes_solves e (inl solved) =
      (length solved.solves.plan.steps, solved.solves.plan.cost, subst (λ (x : List ℕ). Solves b c x) solved.solves.printed solved.solves)
  yes_solves e (inr other) = let apart : Yes ≡ No = sym e ∙ other.status in absurd cc

  pub headline_by : SaysHeadline b c o
  headline_by old new before status known is sent = record {
    line = λ steps cost. (
      λ line. line_solves steps cost (sent_same old new before o.text (valid_line steps cost) known sent line) reported,
      λ solves. subst (Appends old new) (solved (valid_line steps cost) solves).1 sent,
    );
    yes = (λ e. yes_solves (sym is ∙ e) reported, λ s. is ∙ (solved (valid_line s.0 s.1) s.2).0);
  }

module _ (Verdict : Parts → PlanParts → Output → Type 0) (refused : Parts → LayerFault → Option Output) (reports : ReportsValid Verdict) (refuses : Refuses refused) where
  module _ (b c : List ℕ) (o : Output) where
    verdict_reported : (p : Parts) (plan : PlanParts) → Reads task_texts b p → IsLayered p → Reads plan_texts c plan → Verdict p plan o → IsSolved b c o ⊎ IsOther o
    verdict_reported p plan is_task layered is_plan verdict = grind arith

    plan_reported : (p : Parts) (r : Result PlanParts Fault) → Reads task_texts b p → IsLayered p → ReadsAs plan_format most_bytes c r → IsAnswerOrRefusal (codes "plan") (Verdict p) r (Some o) → IsSolved b c o ⊎ IsOther o
    plan_reported p h1 is_task layered reads answer = grind (arith, verdict_reported, other_words, word_of, refusal_line, codes, plan_refusal_apart)

    refused_reported : (r : Result Parts Fault) → IsAnswerOrRefusal (codes "task") (UnlayeredAnswer refused) r (Some o) → IsOther o
    refused_reported (Ok p) (answer, (fault, first, reported), is) = refusal_other fault o (refuses.reported p fault o (reported ∙ sym is))
    refused_reported (Err fault) is = other_words (word_of fault.kind) (refusal_line (codes "task") fault.line) o (λ w steps cost. task_refusal_apart fault.line steps cost w) (sym is)

    pub out_reported : PlanOutBy Verdict refused b c (Some o) → IsSolved b c o ⊎ IsOther o
    out_reported h1 = grind (arith, refused_reported, plan_reported)

  module _ (b c line : List ℕ) (o : Output) (s : Solves b c line) where
    plan_answered : (r : Result PlanParts Fault) → r ≡ Ok s.plan → IsAnswerOrRefusal (codes "plan") (Verdict s.task) r (Some o) → o ≡ valid_answer s.plan
    plan_answered r e out =
        let (answer, verdict, is) = subst (λ (x : Result PlanParts Fault). IsAnswerOrRefusal (codes "plan") (Verdict s.task) x (Some o)) e out in
        let same : o ≡ answer = cc in
        same ∙ reports.valid s.task s.plan answer s.operators s.layered s.valid verdict

    verdict_answered : VerdictOut Verdict s.task c (Some o) → o ≡ valid_answer s.plan
    verdict_answered out =
        plan_answered out.0
        (text_read plan_format plan_laws_hold c s.plan out.0 s.is_plan
        (λ f e. not_long (codes "plan") f o (subst (λ (x : Result PlanParts Fault). IsAnswerOrRefusal (codes "plan") (Verdict s.task) x (Some o)) e out.2)) out.1)
        out.2

    solved_answered : PlanOutBy Verdict refused b c (Some o) → o ≡ valid_answer s.plan
    solved_answered (inl (r, reads, is)) =
        let read = text_read task_format task_laws_hold b s.task r s.is_task
        (λ f e. not_long (codes "task") f o (subst (λ (x : Result Parts Fault). IsAnswerOrRefusal (codes "task") (UnlayeredAnswer refused) x (Some o)) e is)) reads in
        absurd (not_refused refused b (Some o) (r, reads, is) (s.task, subst (ReadsAs task_format most_bytes b) read reads, s.layered))
    solved_answered (inr (p, reads, layered, out)) =
        verdict_answered (subst (λ (x : Parts). VerdictOut Verdict x c (Some o)) (task_laws_hold.one_value b p s.task reads.0 s.is_task) out)

    pub out_solved : PlanOutBy Verdict refused b c (Some o) → (o.status ≡ Yes) × (o.text ≡ line)
    out_solved out = let same = solved_answered out in (ap (λ (x : Output). x.status) same, ap (λ (x : Output). x.text) same ∙ sym s.printed)

  pub headline_of : (b c : List ℕ) (o : Output) → PlanOutBy Verdict refused b c (Some o) → (old new : Option (List ℕ)) (before : List ℕ) (status : Status)
      → old ≡ Some before → status ≡ o.status → Appends old new o.text → Headline b c (Appends old new) status
  headline_of b c o out = headline_by b c o (out_reported b c o out) (λ line solves. out_solved b c line o solves out)
