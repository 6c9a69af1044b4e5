-- It is decidable which operator a name means, and which fact is the first that doesn't hold.
use Rattle.std.proofs.lemmas.Grind.{common_steps}
use Rattle.sas_run.proofs.Imports.{◌≡◌, ℕ, zero, suc, ◌<◌, ◌⊎◌, List, [], ◌∷◌, length, slice_index, slice_index_or, bytes_eq, subst, inl, inr, arith, cases_eq, cases_lt, cases_Bool, bytes_eq-Decides, All-nil, All-cons, Fact, Parts, operator_at, Holds, AllHold, preconditions, hold_or_not, IsNamed, IsLowestNamed, IsApplicable, NoneApplicable, IsChosen, IsFirstMissed}

-- whether an operator has the name
pub named_or_not : (p : Parts) (name : List ℕ) (operator : ℕ) → IsNamed p name operator ⊎ (IsNamed p name operator → ⊥)
named_or_not p name operator = grind (arith, cases_lt operator (length p.operators), bytes_eq-Decides (operator_at p operator).name name, cases_Bool (bytes_eq (operator_at p operator).name name))

-- whether an operator is applicable
pub applicable_or_not : (p : Parts) (s : List ℕ) (operator : ℕ) → IsApplicable s (operator_at p operator) ⊎ (IsApplicable s (operator_at p operator) → ⊥)
applicable_or_not p s operator = hold_or_not (slice_index s) (preconditions (operator_at p operator))

-- the least number with a decidable property, or none below n has it
least_below : (P : ℕ → Type 0) → ((k : ℕ) → P k ⊎ (P k → ⊥)) → (n : ℕ)
    → ((k : ℕ) × P k × ((lower : ℕ) → lower < k → P lower → ⊥)) ⊎ ((k : ℕ) → k < n → P k → ⊥)
least_below P each zero = inr (λ k lt. absurd (omega arith))
least_below P each (suc n) = elim (least_below P each n) [
  | inl w ↦ inl w
  | inr before ↦ elim (each n) [
    | inl here ↦ inl (n, here, before)
    | inr not_here ↦ inr (λ k lt is. elim (cases_eq k n) [
      | inl e ↦ not_here (subst P e is)
      | inr ne ↦ before k (omega arith) is
    ])
  ]
]

-- some operator has the name, or none of them
pub named_or_none : (p : Parts) (name : List ℕ) → ((operator : ℕ) × IsNamed p name operator) ⊎ ((operator : ℕ) → IsNamed p name operator → ⊥)
named_or_none p name = elim (least_below (IsNamed p name) (named_or_not p name) (length p.operators)) [
  | inl w ↦ inl (w.0, w.1)
  | inr none ↦ inr (λ operator is. none operator is.exists is)
]

-- then there is a lowest one
pub some_lowest : (p : Parts) (name : List ℕ) (operator : ℕ) → IsNamed p name operator → (lowest : ℕ) × IsLowestNamed p name 0 lowest
some_lowest p name operator named = elim (least_below (IsNamed p name) (named_or_not p name) (suc operator)) [
  | inl w ↦ (w.0, record { from_on = omega arith; of_name = w.1; first = λ lower from below is. w.2 lower below is })
  | inr none ↦ absurd (none operator (omega arith) named)
]

pub one_lowest : (p : Parts) (name : List ℕ) (a b : ℕ) → IsLowestNamed p name 0 a → IsLowestNamed p name 0 b → a ≡ b
one_lowest p name a b x y = grind (arith, common_steps, cases_lt)

-- whether an operator has the name and is applicable
can_or_not : (p : Parts) (s name : List ℕ) (operator : ℕ) → (IsNamed p name operator × IsApplicable s (operator_at p operator))
    ⊎ ((IsNamed p name operator × IsApplicable s (operator_at p operator)) → ⊥)
can_or_not p s name operator = grind (arith, named_or_not p name operator, applicable_or_not p s operator)

-- an operator is chosen, or none of the name is applicable
pub chosen_or_none : (p : Parts) (s name : List ℕ) → ((operator : ℕ) × IsChosen p s name operator) ⊎ NoneApplicable p s name
chosen_or_none p s name = elim (least_below (λ operator. IsNamed p name operator × IsApplicable s (operator_at p operator)) (can_or_not p s name) (length p.operators)) [
  | inl w ↦ inl (w.0, record { of_name = w.1.0; applicable = w.1.1; first = λ lower below is can. w.2 lower below (is, can) })
  | inr none ↦ inr (λ operator is can. none operator is.exists (is, can))
]

-- all facts hold, or one is the first that doesn't
pub hold_or_missed : (value : ℕ → ℕ) (facts : List Fact) → AllHold value facts ⊎ ((index : ℕ) × IsFirstMissed value facts index)
hold_or_missed value [] = inl (All-nil (Holds value))
hold_or_missed value (f ∷ fs) = elim (cases_eq (value f.var) f.value) [
  | inr n ↦ inr (0, record { exists = omega arith; missed = λ d. n; before = λ k d lt. absurd (omega arith) })
  | inl y ↦ elim (hold_or_missed value fs) [
    | inl h ↦ inl (All-cons (Holds value) f fs y h)
    | inr w ↦ inr (suc w.0, record { exists = (let lt = w.1.exists in omega arith); missed = λ d. w.1.missed d; before = one_more y w.0 w.1 })
  ]
]
  where
    one_more : Holds value f → (index : ℕ) → IsFirstMissed value fs index → (k : ℕ) (d : Fact) → k < suc index → Holds value (slice_index_or (f ∷ fs) k d)
    one_more y index w zero d lt = y
    one_more y index w (suc k) d lt = w.before k d (omega arith)

pub no_fact : Fact
no_fact = record { var = 0; value = 0 }

-- there is at most one first fact that doesn't hold
pub first_missed_is_one : (value : ℕ → ℕ) (facts : List Fact) (a b : ℕ) → IsFirstMissed value facts a → IsFirstMissed value facts b → a ≡ b
first_missed_is_one value facts a b x y = grind (arith, common_steps, cases_lt, x.missed no_fact, y.missed no_fact)

-- if all facts hold, there is no first that doesn't
pub none_missed : (value : ℕ → ℕ) (facts : List Fact) (index : ℕ) → AllHold value facts → IsFirstMissed value facts index → ⊥
none_missed value facts index hold missed = missed.missed no_fact (hold index no_fact missed.exists)
