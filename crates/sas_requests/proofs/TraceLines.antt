-- The lines of a trace hold no line end, and aren't reasons.
use Rattle.sas_requests.proofs.Imports.{◌≡◌, ℕ, zero, suc, ◌+◌, List, [], ◌∷◌, ◌++◌, length, map, flat_map, codes, decimal, refl, Option, Some, None, AllByRecursion, IsName, IsPlain, plain-append, plain-decimal, plain-name, Parts, WellRanged, VariableFits, Variable, Operator, OperatorFits, value_name, operator_at, unwrap_or, option_and_then, slice_get, get_or, initial_lines, Run, state_at, run_lines, step_line, step_lines, change_line, none-some, same_Some, subst, is_reason, false}
use Rattle.std.specs.List.{enumerate_from, range_with_len}
use Rattle.sas_answers.specs.Facts.{fact_line}
use Rattle.sas_core.specs.Tasks.{cost_of}
use Rattle.sas_plan_reasons.specs.Trace.{changed}
use Rattle.std.specs.Prelude.{slice_index}
use Rattle.sas_requests.proofs.GroupLines.{all_both}
use Rattle.sas_requests.proofs.PlainAnswers.{IsReported}

-- ---- items of lists

at_of : {A : Type 0} (P : A → Type 0) (l : List A) (n : ℕ) (d : A) → AllByRecursion P l → P d → P (get_or l n d)
at_of P [] n d all has = has
at_of P (x ∷ l) zero d all has = all.0
at_of P (x ∷ l) (suc n) d all has = at_of P l n d all.1 has

got_of : {A : Type 0} (P : A → Type 0) (l : List A) (n : ℕ) (x : A) → AllByRecursion P l → slice_get l n ≡ Some x → P x
got_of P [] n x all is = absurd (none-some x is)
got_of P (y ∷ l) zero x all is = subst P (same_Some y x is) all.0
got_of P (y ∷ l) (suc n) x all is = got_of P l n x all.1 is

all_mapped : {A B : Type 0} (P : B → Type 0) (f : A → B) → ((x : A) → P (f x)) → (l : List A) → AllByRecursion P (map f l)
all_mapped P f each [] = tt
all_mapped P f each (x ∷ l) = (each x, all_mapped P f each l)

all_flat : {A B : Type 0} (P : B → Type 0) (f : A → List B) → ((x : A) → AllByRecursion P (f x)) → (l : List A) → AllByRecursion P (flat_map f l)
all_flat P f each [] = tt
all_flat P f each (x ∷ l) = all_both P (f x) (flat_map f l) (each x) (all_flat P f each l)

-- ---- names

name_if : (o : Option (List ℕ)) → ((name : List ℕ) → o ≡ Some name → IsPlain name) → IsPlain (unwrap_or o [])
name_if None h = refl
name_if (Some name) h = h name refl

module _ (p : Parts) (ranged : WellRanged p) where
  value_in : (o : Option Variable) (value : ℕ) → ((v : Variable) → o ≡ Some v → VariableFits v) → IsPlain (unwrap_or (option_and_then (λ (v : Variable). slice_get v.values value) o) [])
  value_in None value h = refl
  value_in (Some v) value h = name_if (slice_get v.values value) (λ name is. plain-name name (got_of IsName v.values value name (h v refl).values.each is))

  value_plain : (var value : ℕ) → IsPlain (unwrap_or (value_name p.variables var value) [])
  value_plain var value = value_in (slice_get p.variables var) value (λ v is. got_of VariableFits p.variables var v ranged.variables.each is)

  abbrev HasPlainName : Operator → Type 0
  HasPlainName o = IsPlain o.name

  operators_plain : (l : List Operator) → AllByRecursion (OperatorFits p.variables) l → AllByRecursion HasPlainName l
  operators_plain [] all = tt
  operators_plain (o ∷ l) all = (plain-name o.name (let fits : OperatorFits p.variables o = all.0 in fits.name), operators_plain l all.1)

  operator_plain : (operator : ℕ) → IsPlain (operator_at p operator).name
  operator_plain operator = at_of HasPlainName p.operators operator _ (operators_plain p.operators ranged.operators.each) refl

  -- ---- lines

  -- numbers, and a name behind them
  numbers_then : (a b : ℕ) (name : List ℕ) → IsPlain name → IsPlain (decimal a ++ 32 ∷ (decimal b ++ 32 ∷ name))
  numbers_then a b name is = plain-append (decimal a) (32 ∷ (decimal b ++ 32 ∷ name)) (plain-decimal a) (plain-append (decimal b) (32 ∷ name) (plain-decimal b) is)

  line_reported : (word : List ℕ) (a b : ℕ) (name : List ℕ) → IsPlain word → ((rest : List ℕ) → is_reason (word ++ rest) ≡ false) → IsPlain name → IsReported (word ++ (decimal a ++ 32 ∷ (decimal b ++ 32 ∷ name)))
  line_reported word a b name plain no_reason is = record {
    plain = plain-append word (decimal a ++ 32 ∷ (decimal b ++ 32 ∷ name)) plain (numbers_then a b name is);
    no_reason = no_reason (decimal a ++ 32 ∷ (decimal b ++ 32 ∷ name));
  }

  initial_reported : (var value : ℕ) → IsReported (fact_line (codes "initial") p.variables var value)
  initial_reported var value = line_reported (codes "initial ") var value (unwrap_or (value_name p.variables var value) []) refl (λ rest. refl) (value_plain var value)

  numbered_reported : (word : List ℕ) (a b d : ℕ) (name : List ℕ) → IsPlain word → ((rest : List ℕ) → is_reason (word ++ rest) ≡ false) → IsPlain name
      → IsReported (word ++ (decimal a ++ 32 ∷ (decimal b ++ 32 ∷ (decimal d ++ 32 ∷ name))))
  numbered_reported word a b d name plain no_reason is =
      line_reported word a b (decimal d ++ 32 ∷ name) plain no_reason (plain-append (decimal d) (32 ∷ name) (plain-decimal d) is)

  step_reported : (step operator : ℕ) → IsReported (step_line p step operator)
  step_reported step operator = numbered_reported (codes "step ") step operator (cost_of p operator) (operator_at p operator).name refl (λ rest. refl) (operator_plain operator)

  change_reported : (s s' : List ℕ) (var : ℕ) → IsReported (change_line p s s' var)
  change_reported s s' var =
      numbered_reported (codes "change ") var (slice_index s var) (slice_index s' var) (unwrap_or (value_name p.variables var (slice_index s' var)) []) refl (λ rest. refl) (value_plain var (slice_index s' var))

  steps_reported : (run : Run) (k : ℕ) → AllByRecursion IsReported (step_lines p run k)
  steps_reported run k = (
    step_reported (k + 1) (slice_index run.operators k),
    all_mapped IsReported (change_line p (state_at run k) (state_at run (k + 1))) (change_reported (state_at run k) (state_at run (k + 1))) (changed p (state_at run k) (state_at run (k + 1))),
  )

  initials_reported : (places : List (ℕ × ℕ)) → AllByRecursion IsReported (map (λ (var, value). fact_line (codes "initial") p.variables var value) places)
  initials_reported [] = tt
  initials_reported ((var, value) ∷ places) = (initial_reported var value, initials_reported places)

  pub run_reported : (run : Run) → AllByRecursion IsReported (run_lines p run)
  run_reported run = all_both IsReported (initial_lines p.variables (state_at run 0)) (flat_map (step_lines p run) (range_with_len 0 (length run.steps)))
      (initials_reported (enumerate_from 0 (state_at run 0)))
      (all_flat IsReported (step_lines p run) (steps_reported run) (range_with_len 0 (length run.steps)))
