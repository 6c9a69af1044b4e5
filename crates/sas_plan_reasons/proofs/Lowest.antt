-- The lowest number with a property is unique. It can be found if the property is decidable.
use Rattle.sas_plan_reasons.proofs.Imports.{◌≡◌, ℕ, zero, suc, ◌<◌, ◌⊎◌, Option, subst, inl, inr, arith, cases_eq, IsLowest, AreLowest, IsLowestIfAny}

pub lowest_is_one : (Has : ℕ → Type 0) (a b : ℕ) → IsLowest Has a → IsLowest Has b → a ≡ b
lowest_is_one Has a b x y = grind arith

pub lowest_if_any_is_one : (Has : ℕ → Type 0) (a b : Option ℕ) → IsLowestIfAny Has a → IsLowestIfAny Has b → a ≡ b
lowest_if_any_is_one h1 h2 h3 x y = grind (arith, lowest_is_one)

module _ (Has : ℕ → Type 0) (explanation : (n : ℕ) → Has n ⊎ (Has n → ⊥)) where
  -- one of the numbers below a bound is the lowest with the property, or none has it
  pub lowest_below : (bound : ℕ) → ((n : ℕ) × (n < bound) × IsLowest Has n) ⊎ ((n : ℕ) → n < bound → Has n → ⊥)
  lowest_below zero = inr (λ n lt. absurd (omega arith))
  lowest_below (suc bound) = elim (lowest_below bound) [
    | inl w ↦ inl (w.0, (let lt : w.0 < bound = w.1 in omega arith), w.2)
    | inr none ↦ elim (explanation bound) [
      | inl has ↦ inl (bound, omega arith, record { has = has; first = none })
      | inr not_here ↦ inr (λ n lt h. elim (cases_eq n bound) [
        | inl e ↦ not_here (subst Has e h)
        | inr ne ↦ none n (omega arith) h
      ])
    ]
  ]

  -- the case that some number has the property
  pub lowest_from : (n : ℕ) → Has n → (k : ℕ) × IsLowest Has k
  lowest_from n has = elim (lowest_below (suc n)) [
    | inl w ↦ (w.0, w.2)
    | inr none ↦ absurd (none n (omega arith) has)
  ]

-- two numbers are the lowest that are related, or no two are related
pub are_lowest_one : (R : ℕ → ℕ → Type 0) (m n m' n' : ℕ) → AreLowest R m n → AreLowest R m' n' → (m ≡ m') × (n ≡ n')
are_lowest_one R m n m' n' x y = (same, lowest_is_one (R m') n n' (subst (λ k. IsLowest (R k) n) same x.lowest) y.lowest)
  where
    same : m ≡ m'
    same = lowest_is_one (λ k. (l : ℕ) × R k l) m m' x.first y.first

module _ (R : ℕ → ℕ → Type 0) (explanation : (m n : ℕ) → R m n ⊎ (R m n → ⊥)) (bound bound' : ℕ) (within : (m n : ℕ) → R m n → (m < bound) × (n < bound')) where
  related_or_not : (m : ℕ) → ((n : ℕ) × R m n) ⊎ ((n : ℕ) × R m n → ⊥)
  related_or_not m = elim (lowest_below (R m) (explanation m) bound') [
    | inl w ↦ inl (w.0, w.2.has)
    | inr none ↦ inr (λ h. none h.0 (within m h.0 h.1).1 h.1)
  ]

  pub some_are_lowest : ((m n : ℕ) × AreLowest R m n) ⊎ ((m n : ℕ) → R m n → ⊥)
  some_are_lowest = elim (lowest_below (λ m. (n : ℕ) × R m n) related_or_not bound) [
    | inr none ↦ inr (λ m n r. none m (within m n r).0 (n, r))
    | inl w ↦ elim (lowest_below (R w.0) (explanation w.0) bound') [
      | inl v ↦ inl (w.0, v.0, record { first = w.2; lowest = v.2 })
      | inr none ↦ absurd (let h = w.2.has in none h.0 (within w.0 h.0 h.1).1 h.1)
    ]
  ]
