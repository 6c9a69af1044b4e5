-- Operators are reported as valid exactly if they are.
use Rattle.sas_c.proofs.Imports.{◌≡◌, ℕ, ◌<◌, List, [], ◌∷◌, length, take, get_or, ap, sym, subst, ◌∙◌, inl, inr, arith, Option, Some, None, same_Some, IfSome, Parts, IsLayered, Output, Status, Yes, No, IsOther, StartFault, Count, Value, IsStart, IsStartFault, start_of, start_refusal, IsValidFrom, IsValidByNumbers, IsValidRun, Returns, ReturnsHeld, HeadlineByNumbers, ReturnsByNumbers, NumbersOut, RunOut, AnswerFrom, NumbersAnswer, RunAnswer, valid_by, number_fault_words, invalid_line, numbers_have_no_fault, other_words, invalid_line_apart}
use Rattle.sas_c.proofs.Returned.{reports_by}

module _ (Valid : Type 0) (operators : List ℕ) (cost : ℕ) where
  headline_valid : (o : Output) → Valid → o ≡ valid_by (length operators) cost → HeadlineByNumbers Valid operators cost o.text o.status
  headline_valid o valid is = record {
    line = λ steps sum. (
      (λ e. record { valid = valid; printed = sym e ∙ ap (λ (x : Output). x.text) is }),
      (λ solves. ap (λ (x : Output). x.text) is ∙ sym solves.printed),
    );
    yes = ((λ e. valid), (λ v. ap (λ (x : Output). x.status) is));
  }

  headline_other : (o : Output) → (Valid → ⊥) → IsOther o → HeadlineByNumbers Valid operators cost o.text o.status
  headline_other o not_valid other = record {
    line = λ steps sum. ((λ e. absurd (other.text steps sum e)), (λ solves. absurd (not_valid solves.valid)));
    yes = ((λ e. let apart : Yes ≡ No = sym e ∙ other.status in absurd cc), (λ v. absurd (not_valid v)));
  }

  -- what is returned has the headline that the answer has
  module _ (Answer : Output → Type 0) (headline : (o : Output) → Answer o → HeadlineByNumbers Valid operators cost o.text o.status) where
    returned : (before room : List ℕ) (size number : ℕ) → Returns (λ output. (answer : Output) × Answer answer × (output ≡ Some answer)) before room size number → ReturnsByNumbers Valid operators cost room size number
    returned before room size number t = λ status is.
        let (o, (answer, answers, same), its, long, text) = t.answer status is in
        let answered = subst Answer (sym (same_Some o answer same)) answers in
        subst (λ (s : Status). HeadlineByNumbers Valid operators cost (take size room) s) its
        (subst (λ (xs : List ℕ). HeadlineByNumbers Valid operators cost xs o.status) (sym text) (headline o answered))

-- ---- the answer about operators from a state

module _ (p : Parts) (s operators : List ℕ) (cost : ℕ) (layered : IsLayered p) (Valid : Type 0) (to : IsValidFrom p s operators cost → Valid) (from : Valid → IsValidFrom p s operators cost) where
  answer_headline : (o : Output) → AnswerFrom p s operators cost o → HeadlineByNumbers Valid operators cost o.text o.status
  answer_headline o (inl (valid, is)) = headline_valid Valid operators cost o (to valid) is
  answer_headline o (inr (fault, f, is)) = headline_other Valid operators cost o (λ v. numbers_have_no_fault p s operators cost fault layered (from v) f)
      (other_words (number_fault_words cost fault) invalid_line o (λ w steps sum. invalid_line_apart steps sum w) is)

-- ---- the refusal of a start

-- it is no line of a valid plan
not_same : (m n : ℕ) → m < n → n ≡ m → ⊥
not_same m n less same = omega arith

refusal_other : (fault : StartFault) (o : Output) → o ≡ start_refusal fault → IsOther o
refusal_other fault o is = record {
  status = ap (λ (x : Output). x.status) is;
  text = λ steps cost e. not_same 112 115 (omega arith) (ap (λ (t : List ℕ). get_or t 0 0) (sym (ap (λ (x : Output). x.text) is) ∙ e));
}

-- a state isn't refused
not_refused : (p : Parts) (start : List ℕ) (fault : StartFault) → IsStart p start → IsStartFault p start fault → ⊥
not_refused p [] fault starts f = f
not_refused p (v ∷ vs) (Count values variables) starts f = f.2 (f.0 ∙ (starts.one_each ∙ sym f.1))
not_refused p (v ∷ vs) (Value var) starts f = f.2 (starts.in_range var (subst (λ n. var < n) starts.one_each f.1))

module _ (p : Parts) (start operators : List ℕ) (cost : ℕ) (layered : IsLayered p) where
  run_headline : (o : Output) → RunAnswer p start operators cost o → HeadlineByNumbers (IsValidRun p start operators cost) operators cost o.text o.status
  run_headline o (inl (starts, answer)) =
      answer_headline p (start_of p start) operators cost layered (IsValidRun p start operators cost) (λ valid. record { starts = starts; valid = valid }) (λ run. run.valid) o answer
  run_headline o (inr (fault, f, is)) = headline_other (IsValidRun p start operators cost) operators cost o (λ run. not_refused p start fault run.starts f) (refusal_other fault o is)

-- ---- of the task that is held

pub run_returned : (held : Option Parts) (start operators : List ℕ) (cost : ℕ) (before room : List ℕ) (size number : ℕ) → IfSome held IsLayered
    → IfSome held (λ p. Returns (RunOut p start operators cost) before room size number) → IfSome held (λ p. ReturnsByNumbers (IsValidRun p start operators cost) operators cost room size number)
run_returned None start operators cost before room size number layered t = t
run_returned (Some p) start operators cost before room size number layered t =
    returned (IsValidRun p start operators cost) operators cost (RunAnswer p start operators cost) (run_headline p start operators cost layered) before room size number t

pub numbers_returned : (held : Option Parts) (operators : List ℕ) (cost : ℕ) (before room : List ℕ) (size number : ℕ) → IfSome held IsLayered
    → IfSome held (λ p. Returns (NumbersOut p operators cost) before room size number) → IfSome held (λ p. ReturnsByNumbers (IsValidByNumbers p operators cost) operators cost room size number)
numbers_returned None operators cost before room size number layered t = t
numbers_returned (Some p) operators cost before room size number layered t =
    returned (IsValidByNumbers p operators cost) operators cost (NumbersAnswer p operators cost)
    (answer_headline p p.init operators cost layered (IsValidByNumbers p operators cost) (λ valid. valid) (λ valid. valid)) before room size number t

-- ---- the initial state isn't refused

initial_out : (p : Parts) (operators : List ℕ) (cost : ℕ) (o : Option Output) → RunOut p [] operators cost o → NumbersOut p operators cost o
initial_out p operators cost o (answer, inl (starts, is), same) = (answer, is, same)
initial_out p operators cost o (answer, inr (fault, none, is), same) = absurd none

pub from_initial : (held after : Option Parts) (operators : List ℕ) (cost : ℕ) (before room : List ℕ) (size number : ℕ)
    → ReturnsHeld (λ p. RunOut p [] operators cost) held after before room size number → ReturnsHeld (λ p. NumbersOut p operators cost) held after before room size number
from_initial None after operators cost before room size number t = record { of_task = t.of_task; same = t.same; none = t.none }
from_initial (Some p) after operators cost before room size number t = record {
  of_task = reports_by (RunOut p [] operators cost) (NumbersOut p operators cost) (initial_out p operators cost) before room size number t.of_task;
  same = t.same;
  none = t.none;
}
