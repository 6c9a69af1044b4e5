-- What is returned follows from how a run ended.
use Rattle.sas_c.proofs.Imports.{◌≡◌, ℕ, ◌<◌, false, List, [], ◌++◌, length, take, drop, arith, refl, sym, ap, subst, ◌∙◌, Option, Some, None, Result, Ok, Err, IfSome, Appends, Parts, IsLayered, ReadsAs, most_bytes, task_format, Status, Yes, No, ToolFault, Memory, Read, TooLong, Write, Output, EndsCounting, layers_verdict, HoldsTask, IsWritten, Returns, ReturnsHeadline, ReturnsInvariants, number_of_fault, number_of_status, Detail, VerdictBy, PlanBy, OutBy, SaysLine, Plan, Mutex, Check, Headline, Invariants, Out, TaskOut, UnlayeredAnswer, plain_refusal, same_output, judged_by, check_yes, check_no, task_refused, headline_of_text, invariants_of_text}

same_number : (s t : Status) → number_of_status s ≡ number_of_status t → s ≡ t
same_number Yes Yes e = refl
same_number No No e = refl
same_number Yes No e = absurd (omega arith)
same_number No Yes e = absurd (omega arith)

low_number : (s : Status) → number_of_status s < 2
low_number Yes = omega arith
low_number No = omega arith

-- ---- a text

module _ (text : List ℕ) (status : Status) (before room : List ℕ) (size : ℕ) (long : size ≡ length text) where
  abbrev ReportsText : ℕ → Type 0
  ReportsText number = Returns (λ (o : Option Output). o ≡ Some (record { text = text; status = status })) before room size number

  -- that was copied is returned
  pub reports_copied : (number : ℕ) → number ≡ number_of_status status → take (length text) room ≡ text → drop (length text) room ≡ drop (length text) before → length room ≡ length before → ReportsText number
  reports_copied number is copied behind as_long =
      let low = low_number status in record {
        answer = λ s e. (record { text = text; status = status }, refl, same_number status s (sym is ∙ e), long, subst (λ (n : ℕ). take n room ≡ text) (sym long) copied);
        longer = λ e. absurd (omega arith);
        none = λ e. absurd (omega arith);
        known = omega arith;
        behind = λ e. subst (λ (n : ℕ). drop n room ≡ drop n before) (sym long) behind;
        same = λ e. absurd (omega arith);
        as_long = as_long;
      }

  -- and so is one that was too long for that
  pub reports_longer : length before < length text → room ≡ before → ReportsText 2
  reports_longer longer same =
      let as_long : length room ≡ length before = ap (λ (xs : List ℕ). length xs) same in record {
        answer = λ s e. let low = low_number s in absurd (omega arith);
        longer = λ e. (record { text = text; status = status }, refl, long, omega arith);
        none = λ e. absurd (omega arith);
        known = omega arith;
        behind = λ e. absurd (omega arith);
        same = λ e. same;
        as_long = as_long;
      }

-- ---- an end without one, which leaves the room as it was

module _ (Out : Option Output → Type 0) (room : List ℕ) (size : ℕ) where
  reports_none : (number : ℕ) → 2 < number → number < 5 → (number ≡ 4 → Out None) → Returns Out room room size number
  reports_none number more known none = record {
    answer = λ s e. let low = low_number s in absurd (omega arith);
    longer = λ e. absurd (omega arith);
    none = none;
    known = known;
    behind = λ e. refl;
    same = λ e. refl;
    as_long = refl;
  }

  reports_nothing : Returns Out room room size 3
  reports_nothing = reports_none 3 (omega arith) (omega arith) (λ e. absurd (omega arith))

  by_fault : (why : ToolFault) → (why ≡ TooLong → Out None) → Returns Out room room size (number_of_fault why)
  by_fault TooLong long = reports_none 4 (omega arith) (omega arith) (λ e. long refl)
  by_fault Memory long = reports_nothing
  by_fault Read long = reports_nothing
  by_fault (Write written) long = reports_nothing

  pub reports_fault : (why : ToolFault) (number : ℕ) → number ≡ number_of_fault why → (why ≡ TooLong → Out None) → Returns Out room room size number
  reports_fault why number is long = subst (λ (n : ℕ). Returns Out room room size n) (sym is) (by_fault why long)

-- ---- what is returned for one output is returned for another that follows from it

module _ (A B : Option Output → Type 0) (to : (o : Option Output) → A o → B o) (before room : List ℕ) (size number : ℕ) where
  pub reports_by : Returns A before room size number → Returns B before room size number
  reports_by t = record {
    answer = λ status is. let x = t.answer status is in (x.0, to (Some x.0) x.1, x.2, x.3, x.4);
    longer = λ is. let x = t.longer is in (x.0, to (Some x.0) x.1, x.2, x.3);
    none = λ is. to None (t.none is);
    known = t.known;
    behind = t.behind;
    same = t.same;
    as_long = t.as_long;
  }

-- what is returned for a text is returned for the same text
pub reports_same : (text other : List ℕ) (status : Status) (before room : List ℕ) (size number : ℕ) → text ≡ other
    → Returns (λ o. o ≡ Some (record { text = text; status = status })) before room size number → Returns (λ o. o ≡ Some (record { text = other; status = status })) before room size number
reports_same text other status before room size number same t = subst (λ (xs : List ℕ). Returns (λ (o : Option Output). o ≡ Some (record { text = xs; status = status })) before room size number) same t

-- what was written into memory is the output
module _ (Out : Option Output → Type 0) (was items : List ℕ) (empty : was ≡ []) where
  written : (r : Result Status ToolFault) → EndsCounting Out (Appends (Some was) (Some items)) r → (o : Option Output) → IsWritten items r o → Out o
  written (Ok status) (output, out, same, sent) o is =
      let all : items ≡ output.text = sent ∙ ap (λ (xs : List ℕ). xs ++ output.text) empty in
      subst Out (sym (is ∙ ap Some (same_output (record { text = items; status = status }) output all same))) out
  written (Err why) ends o (long, is) = subst Out (sym is) (subst (λ (w : ToolFault). EndsCounting Out (Appends (Some was) (Some items)) (Err w)) long ends)

  pub reports_ended : (r : Result Status ToolFault) (before room : List ℕ) (size number : ℕ) → EndsCounting Out (Appends (Some was) (Some items)) r → Returns (IsWritten items r) before room size number → Returns Out before room size number
  reports_ended r before room size number ends = reports_by (IsWritten items r) Out (written r ends) before room size number

-- ---- whether a plan solves a task

pub headline_reported : (detail : Detail) (b c before room : List ℕ) (size number : ℕ) → Returns (OutBy detail Plan b c) before room size number → ReturnsHeadline detail.trace b c room size number
headline_reported detail b c before room size number t = λ status is.
    let x = t.answer status is in
    subst (λ (text : List ℕ). Headline b c (SaysLine detail.trace text) status) (sym x.4) (subst (λ (s : Status). Headline b c (SaysLine detail.trace (x.0).text) s) x.2 (headline_of_text detail b c x.0 x.1))

-- ---- a plan of a task that is held

-- what is returned for the task that is held is returned for the bytes that it was read from
module _ (For : Parts → Option Output → Type 0) (Out : Option Output → Type 0) (b before room : List ℕ) (size number : ℕ) (to : (p : Parts) → IsLayered p → ReadsAs task_format most_bytes b (Ok p) → (o : Option Output) → For p o → Out o) where
  held_reported : (held : Option Parts) → HoldsTask b held → IfSome held (λ loaded. Returns (For loaded) before room size number) → Returns Out before room size number
  held_reported None holds t = absurd holds
  held_reported (Some loaded) (reads, layered) t = reports_by (For loaded) Out (to loaded layered reads) before room size number t

pub plan_reported : (detail : Detail) (b c before room : List ℕ) (size number : ℕ) (held : Option Parts) → HoldsTask b held → IfSome held (λ loaded. Returns (PlanBy detail.reasons (VerdictBy detail loaded) c) before room size number) → Returns (OutBy detail Plan b c) before room size number
plan_reported detail b c before room size number held holds t =
    held_reported (λ p. PlanBy detail.reasons (VerdictBy detail p) c) (OutBy detail Plan b c) b before room size number (λ p layered reads o. judged_by detail b c o p layered reads) held holds t

-- ---- which mutex groups are exclusive

pub invariants_reported : (detail : Detail) (b c before room : List ℕ) (size number : ℕ) → Returns (OutBy detail Mutex b c) before room size number → ReturnsInvariants b room size number
invariants_reported detail b c before room size number t = λ status is.
    let x = t.answer status is in
    subst (λ (text : List ℕ). Invariants b (λ out. text ≡ out)) (sym x.4) (invariants_of_text detail b c x.0 x.1)

-- ---- a task that was read

-- a layered task is reported as one
pub layered_out : (p : Parts) (b : List ℕ) → ReadsAs task_format most_bytes b (Ok p) → IsLayered p → (o : Option Output) → o ≡ layers_verdict None → Out Check b [] o
layered_out p b reads layered o is = (Ok p, reads, (_, check_yes false p layered, is))

-- one that is refused is reported as by `check`, and never as layered
refused_out : (b : List ℕ) (o : Option Output) → TaskOut (UnlayeredAnswer plain_refusal) b o → Out Check b [] o
refused_out b o (Err fault, reads, is) = (Err fault, reads, is)
refused_out b o (Ok p, reads, (answer, refused, is)) = (Ok p, reads, (answer, check_no false p answer refused, is))

module _ (b was items : List ℕ) (empty : was ≡ []) (r : Result Status ToolFault) (before room : List ℕ) (size number : ℕ) (ends : EndsCounting (TaskOut (UnlayeredAnswer plain_refusal) b) (Appends (Some was) (Some items)) r) (written : Returns (IsWritten items r) before room size number) where
  refused : Returns (TaskOut (UnlayeredAnswer plain_refusal) b) before room size number
  refused = reports_ended (TaskOut (UnlayeredAnswer plain_refusal) b) was items empty r before room size number ends written

  pub refused_reported : Returns (Out Check b []) before room size number
  refused_reported = reports_by (TaskOut (UnlayeredAnswer plain_refusal) b) (Out Check b []) (refused_out b) before room size number refused

  pub never_yes : number ≡ 0 → ⊥
  never_yes zero =
      let (o, out, status, long, sent) = refused.answer Yes zero in
      let apart : No ≡ Yes = sym (task_refused b o out).status ∙ status in
      absurd cc
