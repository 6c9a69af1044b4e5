-- Double negations: if each of some properties can't fail, they can't all fail together, and a
-- nonempty set of numbers can't lack a least one. Also items of lists and their indexes.
use Rattle.std.proofs.lemmas.Grind.{common_steps}
use Rattle.sas_mutex.proofs.Imports.{◌≡◌, ℕ, zero, suc, ◌<◌, ◌≤◌, ◌⊎◌, List, length, get_or, sym, ◌∙◌, ap, subst, inl, inr, arith, Some, cases_eq, slice_get-get_or, get_or_from_slice_get, slice_get_within, Contains, slice_get, Fact, fact_same}

-- each of the first n holds, or it can't be that each does
pub all_below : (n : ℕ) (P : ℕ → Type 0) → ((k : ℕ) → k < n → (P k → ⊥) → ⊥) → (((k : ℕ) → k < n → P k) → ⊥) → ⊥
all_below zero P each none = none (λ k lt. absurd (omega arith))
all_below (suc n) P each none = all_below n P (λ k lt. each k (omega arith)) (λ below. each n (omega arith) (λ here.
    none (λ k lt. elim (cases_eq k n) [
      | inl e ↦ subst P (sym e) here
      | inr ne ↦ below k (omega arith)
    ])))

-- a number that has the property, and none below it does
pub record IsLeast (P : ℕ → Type 0) (n : ℕ) : Type 0 where
  pub has : P n
  pub none_below : (lower : ℕ) → lower < n → P lower → ⊥

module _ (P : ℕ → Type 0) (no_least : (n : ℕ) → IsLeast P n → ⊥) where
  none_before : (end : ℕ) → (n : ℕ) → n < end → P n → ⊥
  none_before zero n lt has = absurd (omega arith)
  none_before (suc end) n lt has = no_least n (record { has = has; none_below = λ lower below. none_before end lower (omega arith) })

  -- where there is no lowest, there is none
  pub none_at_all : (n : ℕ) → P n → ⊥
  none_at_all n = none_before (suc n) n (omega arith)

-- two facts are one, or differ
pub facts_same : (f g : Fact) → (f ≡ g) ⊎ (f ≡ g → ⊥)
facts_same f g = grind (arith, common_steps, cases_eq, fact_same)

-- a list has the fact among its first ones, or not
first_have : (facts : List Fact) (f : Fact) (n : ℕ) → n ≤ length facts
    → Contains facts f ⊎ ((k : ℕ) → k < n → get_or facts k f ≡ f → ⊥)
first_have facts f zero within = inr (λ k lt. absurd (omega arith))
first_have facts f (suc n) within = elim (first_have facts f n (omega arith)) [
  | inl has ↦ inl has
  | inr none ↦ elim (facts_same (get_or facts n f) f) [
    | inl is ↦ inl (n, omega arith, is)
    | inr is_not ↦ inr (λ k lt is. elim (cases_eq k n) [
      | inl e ↦ is_not (subst (λ i. get_or facts i f ≡ f) e is)
      | inr ne ↦ none k (omega arith) is
    ])
  ]
]

-- a list has the fact, or not
pub has_or_not : (facts : List Fact) (f : Fact) → Contains facts f ⊎ (Contains facts f → ⊥)
has_or_not facts f = elim (first_have facts f (length facts) (omega arith)) [
  | inl has ↦ inl has
  | inr none ↦ inr (λ among. none among.0 among.1 among.2)
]

-- what stands at a place is an item, and an item stands at a place
module _ {A : Type 0} (xs : List A) where
  pub item_at : (place : ℕ) (x : A) → slice_get xs place ≡ Some x → Contains xs x
  item_at place x here = (place, slice_get_within xs place x here, get_or_from_slice_get xs place x x here)

  pub stands_at : (x : A) → (among : Contains xs x) → slice_get xs among.0 ≡ Some x
  stands_at x among = slice_get-get_or xs among.0 x among.1 ∙ ap (λ (y : A). Some y) among.2
