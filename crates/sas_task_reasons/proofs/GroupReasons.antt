-- Each group that isn't exclusive has exactly one reason; that it exists is stated as a double
-- negation.
use Rattle.std.proofs.lemmas.Grind.{common_steps}
use Rattle.sas_task_reasons.proofs.Imports.{fails_not_kept, some_failure, some_first, one_first, first_too, Failure, IsFailure, IsJointVerdict, IsReason, Keeps, Operator, Verdict, ◌<◌, ◌≢◌, ◌≡◌, ℕ, ◌==◌, ◌⊎◌, Bool, false, List, length, Option, None, Some, refl, sym, ◌∙◌, ap, subst, inl, inr, arith, eqb-true, eq-eqb, true≢false, cases_lt, find_at, fails_before_first, none-some, slice_get-get_or, All-contains, All, position_or_len, ◌&&◌, not, is_some, slice_index, Fact, Parts, operator_at, group_at, layer_of, Holds, Exclusive, Reason, OnDerived, HoldsTwo, Breaks, IsFirstFailure, holds, verdict_of, TrueOfGroup, Derived, Initial, Broken, IsExclusiveIn, IsOnBasic, IsGroupOfOr, fact_same, same_or_itself}
use Rattle.std.specs.List.{find}

-- ---- the first fact that passes a test

-- what was found is one, or nothing was found
found_or_not : (found : Option Fact) → (found ≡ None) ⊎ ((fact : Fact) × (found ≡ Some fact))
found_or_not None = inl refl
found_or_not (Some fact) = inr (fact, refl)

one_found : (found : Option Fact) (f g : Fact) → found ≡ Some f → found ≡ Some g → f ≡ g
one_found found f g is is' = cc

-- where none was found, no fact of the list passes
none_passes : (test : Fact → Bool) (facts : List Fact) → find test facts ≡ None → All (λ (f : Fact). test f ≡ false) facts
none_passes test facts none = λ k d lt. elim (cases_lt (position_or_len test facts) (length facts)) [
  | inl within ↦ absurd (none-some _ (sym none ∙ (find_at test facts ∙ slice_get-get_or facts (position_or_len test facts) d within)))
  | inr past ↦ fails_before_first test facts k d (omega (arith, lt, past))
]

-- ---- facts on derived variables

pub is_basic : (layer : Option ℕ) → is_some layer ≡ false → layer ≡ None
is_basic h1 is = grind arith

-- where no fact is on a derived variable, all are on basic ones
pub all_basic : (p : Parts) (facts : List Fact) → find (λ (f : Fact). is_some (layer_of p.variables f.var)) facts ≡ None → IsOnBasic p facts
all_basic p facts none = λ k d lt. is_basic _ (none_passes (λ (f : Fact). is_some (layer_of p.variables f.var)) facts none k d lt)

-- ---- two facts that hold

module _ (s : List ℕ) (group : List Fact) where
  holds_false : (f : Fact) → holds s f ≡ false → Holds (slice_index s) f → ⊥
  holds_false f isnt is = true≢false (sym (eq-eqb (slice_index s f.var) f.value is) ∙ isnt)

  -- where none holds, no two different ones do
  pub exclusive_without : find (holds s) group ≡ None → IsExclusiveIn s group
  exclusive_without none a b in_a in_b ha hb = absurd (holds_false a (All-contains (λ (f : Fact). holds s f ≡ false) group a (none_passes (holds s) group none) in_a) ha)

  -- and where none holds on another variable
  pub exclusive_beside : (var : ℕ) → find (λ (f : Fact). holds s f && not (f.var == var)) group ≡ None → IsExclusiveIn s group
  exclusive_beside var none a b in_a in_b ha hb = grind (arith, common_steps, fact_same, eqb-true, All-contains, none_passes, eq-eqb)

-- ---- failures

pub not_kept_if_fails : (p : Parts) (family : ℕ → Bool) (o : Operator) (group : List Fact) (failure : Failure) → IsFailure (IsGroupOfOr p family group) o group failure
    → Keeps (IsGroupOfOr p family group) o group → ⊥
not_kept_if_fails p family o group = fails_not_kept (IsGroupOfOr p family group) o group

pub fails_if_not_kept : (p : Parts) (family : ℕ → Bool) (o : Operator) (group : List Fact) → (Keeps (IsGroupOfOr p family group) o group → ⊥)
    → ((failure : Failure) → IsFailure (IsGroupOfOr p family group) o group failure → ⊥) → ⊥
fails_if_not_kept p family o group = some_failure (IsGroupOfOr p family group) o group

pub some_first_failure : (p : Parts) (family : ℕ → Bool) (o : Operator) (group : List Fact) → (Keeps (IsGroupOfOr p family group) o group → ⊥)
    → ((failure : Failure) → IsFirstFailure (IsGroupOfOr p family group) o group failure → ⊥) → ⊥
some_first_failure p family o group = some_first (IsGroupOfOr p family group) o group

pub one_first_failure : (p : Parts) (family : ℕ → Bool) (o : Operator) (group : List Fact) (a b : Failure) → IsFirstFailure (IsGroupOfOr p family group) o group a
    → IsFirstFailure (IsGroupOfOr p family group) o group b → a ≡ b
one_first_failure p family o group = one_first (IsGroupOfOr p family group) o group

-- ---- reasons

one_says : (p : Parts) (place : ℕ) (a b : Reason) → verdict_of a ≡ verdict_of b → TrueOfGroup p place a → TrueOfGroup p place b → a ≡ b
one_says p place (OnDerived f) (OnDerived g) same says says' = ap (λ (x : Fact). OnDerived x) (one_found _ f g says says')
one_says p place (OnDerived f) (HoldsTwo g h) same says says' = absurd cc
one_says p place (OnDerived f) (Breaks operator failure) same says says' = absurd cc
one_says p place (HoldsTwo f g) (OnDerived h) same says says' = absurd cc
one_says p place (HoldsTwo f g) (HoldsTwo f' g') same (first, second) (first', second') = grind (arith, common_steps, one_found)
one_says p place (HoldsTwo f g) (Breaks operator failure) same says says' = absurd cc
one_says p place (Breaks operator failure) (OnDerived h) same says says' = absurd cc
one_says p place (Breaks operator failure) (HoldsTwo g h) same says says' = absurd cc
one_says p place (Breaks operator failure) (Breaks operator' failure') same (family, greatest, first) (family', greatest', first') =
    let is' : failure ≡ failure' = one_first (IsGroupOfOr p family' itself) (operator_at p operator') itself failure failure'
    (first_too (IsGroupOfOr p family itself) (IsGroupOfOr p family' itself) (operator_at p operator') itself (same_or_itself p family family' itself greatest greatest')
    (same_or_itself p family' family itself greatest' greatest) failure
    (subst (λ n. IsFirstFailure (IsGroupOfOr p family itself) (operator_at p n) itself failure) is first)) first' in
    cc
  where
    itself : List Fact
    itself = group_at p place

    is : operator ≡ operator'
    is = cc

pub one_reason : (p : Parts) (place : ℕ) (verdict : Verdict) (a b : Reason) → IsReason p place verdict a → IsReason p place verdict b → a ≡ b
one_reason p place verdict a b reason reason' = one_says p place a b (sym reason.of ∙ reason'.of) reason.says reason'.says

pub some_reason : (p : Parts) (place : ℕ) (verdict : Verdict) → place < length p.groups → IsJointVerdict p place verdict → verdict ≢ Exclusive
    → ((reason : Reason) → IsReason p place verdict reason → ⊥) → ⊥
some_reason p place Exclusive exists joint apart none = apart refl
some_reason p place Derived exists joint apart none =
    elim (found_or_not (find (λ (f : Fact). is_some (layer_of p.variables f.var)) (group_at p place))) [
      | inl nothing ↦ joint (all_basic p (group_at p place) nothing)
      | inr (fact, found) ↦ none (OnDerived fact) (record { of = refl; says = found })
    ]
some_reason p place Initial exists joint apart none = elim (found_or_not (find (holds p.init) (group_at p place))) [
  | inl nothing ↦ joint.1 (exclusive_without p.init (group_at p place) nothing)
  | inr (first, found) ↦ elim (found_or_not (find (λ (f : Fact). holds p.init f && not (f.var == first.var)) (group_at p place))) [
    | inl nothing ↦ joint.1 (exclusive_beside p.init (group_at p place) first.var nothing)
    | inr (second, found') ↦ none (HoldsTwo first second) (record { of = refl; says = (found, found') })
  ]
]
some_reason p place (Broken operator) exists (family, greatest, outside, basic, initial, breaking) apart none =
    some_first (IsGroupOfOr p family (group_at p place)) (operator_at p operator) (group_at p place) breaking.breaks
    (λ failure first. none (Breaks operator failure) (record { of = refl; says = (family, greatest, first) }))
