-- The operators of numbered names, stored from the last operator to the first.
use Rattle.sas_names.proofs.Imports.{◌≡◌, ℕ, ◌+◌, ◌<◌, ◌≤◌, List, length, get_or, slice_set, Option, None, Some, arith, eq-or-lt_of_le, cases_eq, none-some, same_Some, get_or-set_same, get_or-set_other, Parts, operator_at, IsNextNamed, existing}

-- Considers the operators from number `from` on. The first list has the lowest operator of each
-- numbered name. The other list has, for each operator with such a name, the next operator of the
-- same name.
pub record AreChainsFrom (p : Parts) (from : ℕ) (number : List ℕ → Option ℕ) (first : List ℕ) (table : List (Option ℕ)) : Type 0 where
  pub lowest : (name : List ℕ) (k : ℕ) → number name ≡ Some k → IsNextNamed p name from (existing p (get_or first k 0))
  pub next : (operator k : ℕ) → from ≤ operator → operator < length p.operators → number (operator_at p operator).name ≡ Some k
      → IsNextNamed p (operator_at p operator).name (operator + 1) (get_or table operator None)

-- after the last operator nothing is stored
pub AreChainsFrom-end : (p : Parts) (from : ℕ) (number : List ℕ → Option ℕ) (first : List ℕ) (table : List (Option ℕ)) → from ≡ length p.operators
    → ((name : List ℕ) (k : ℕ) → number name ≡ Some k → get_or first k 0 ≡ length p.operators) → AreChainsFrom p from number first table
AreChainsFrom-end p from number first table all none = grind (arith, existing)

module _ (p : Parts) (operator : ℕ) (number : List ℕ → Option ℕ) (first : List ℕ) (table : List (Option ℕ))
    (within : operator < length p.operators) (are : AreChainsFrom p (operator + 1) number first table) where
  -- an operator whose name has no number is skipped
  pub AreChainsFrom-pass : number (operator_at p operator).name ≡ None → AreChainsFrom p operator number first table
  AreChainsFrom-pass none = grind (arith, none-some, get_or, eq-or-lt_of_le, operator_at)

  module _ (apart : (name other : List ℕ) (k : ℕ) → number name ≡ Some k → number other ≡ Some k → name ≡ other)
      (count : (name : List ℕ) (k : ℕ) → number name ≡ Some k → k < length first)
      (one_each : length table ≡ length p.operators)
      (k : ℕ) (is : number (operator_at p operator).name ≡ Some k) where
    lowest_of : (name : List ℕ) (j : ℕ) → number name ≡ Some j → IsNextNamed p name operator (existing p (get_or (slice_set first k operator) j 0))
    lowest_of name j of_name = grind (arith, existing, cases_eq, get_or, slice_set, get_or-set_same, operator_at, get_or-set_other, same_Some)

    next_of : (o j : ℕ) → operator ≤ o → o < length p.operators → number (operator_at p o).name ≡ Some j
        → IsNextNamed p (operator_at p o).name (o + 1) (get_or (slice_set table operator (existing p (get_or first k 0))) o None)
    next_of o j from_on exists of_name = grind (arith, eq-or-lt_of_le, operator_at, get_or, slice_set, get_or-set_same, get_or-set_other)

    -- one operator more
    pub AreChainsFrom-step : AreChainsFrom p operator number (slice_set first k operator) (slice_set table operator (existing p (get_or first k 0)))
    AreChainsFrom-step = record { lowest = lowest_of; next = next_of }
