-- The operators of one name, in order.
use Rattle.sas_run.proofs.Imports.{◌≡◌, ℕ, ◌+◌, ◌<◌, ◌≤◌, List, length, Option, None, Some, arith, cases_eq, cases_lt, Parts, operator_at, IsNamed, IsNextNamed, IsLowestNamed, existing, IsApplicable, NoneApplicable, IsChosen, IsFirstChosen, IsLater, IsLaterIfAny}

-- the state of the search for an applicable operator behind this one
abbrev pub SearchedTo : Parts → List ℕ → ℕ → Option ℕ → Type 0
SearchedTo p s operator (Some later) = (operator < later) × IsNamed p (operator_at p operator).name later × ((lower : ℕ) → lower < later → IsLater p s operator lower → ⊥)
SearchedTo p s operator None = IsLaterIfAny p s operator None

-- no operator up to this place is applicable, and the next one of the name is searched next
pub search_goes_on : (p : Parts) (s : List ℕ) (operator place : ℕ) (next : Option ℕ) → operator ≤ place → ((lower : ℕ) → lower ≤ place → IsLater p s operator lower → ⊥)
    → IsNextNamed p (operator_at p operator).name (place + 1) next → SearchedTo p s operator next
search_goes_on p s operator place h1 from none is_next = grind (arith, cases_lt)

-- if an operator isn't applicable, the first chosen one is a later one
pub chosen_later : (p : Parts) (s : List ℕ) (first : ℕ) (result : Option ℕ) → (IsApplicable s (operator_at p first) → ⊥) → IsLaterIfAny p s first result → IsFirstChosen p s first result
chosen_later p s first h1 not none = grind (arith, cases_eq)

-- a number that exists is that of its operator
pub exists_as : (p : Parts) (number first : ℕ) → existing p number ≡ Some first → (number ≡ first) × (number < length p.operators)
exists_as p number first is = grind (arith, existing)

-- the first chosen operator from the lowest of a name on is the chosen one of this name
module _ (p : Parts) (s name : List ℕ) (first : ℕ) (low : IsLowestNamed p name 0 first) where
  pub found_from : (operator : ℕ) → IsFirstChosen p s first (Some operator) → IsChosen p s name operator
  found_from operator is = grind (arith, cases_lt, low)

  pub none_from : IsFirstChosen p s first None → ((operator : ℕ) × IsNamed p name operator) × NoneApplicable p s name
  none_from none = ((first, low.of_name), λ operator named can. grind (arith, cases_lt, low))
