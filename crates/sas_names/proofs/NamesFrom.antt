-- A table of names that is built from the last operator to the first.
use Rattle.sas_names.proofs.Imports.{◌≡◌, ℕ, ◌+◌, ◌<◌, ◌≤◌, true, false, List, length, nat_eq, get_or, slice_set, Option, None, true≢false, arith, pointwise, bytes_decides, eq-or-lt_of_le, get_or-set_same, get_or-set_other, length-set, Parts, operator_at, IsNamed, IsNextNamed, Names, AreNamesFrom, Exist, IsEmptyTable, PutsName, value_of, operator_names}
use Rattle.sas_names.proofs.TablePuts.{value_of-empty}

-- after the last operator the table is empty
pub AreNamesFrom-end : (p : Parts) (from : ℕ) (names : Names) → from ≡ length p.operators → length names.next.items ≡ length p.operators
    → IsEmptyTable names.first → AreNamesFrom p from names
AreNamesFrom-end p from names all one_each empty = grind (arith, length, value_of-empty, operator_names)

-- an operator that doesn't have the name is skipped
pub IsNextNamed-pass : (p : Parts) (name : List ℕ) (operator : ℕ) → (IsNamed p name operator → ⊥) → (r : Option ℕ)
    → IsNextNamed p name (operator + 1) r → IsNextNamed p name operator r
IsNextNamed-pass p name operator other h1 none = grind (arith, eq-or-lt_of_le)

module _ (p : Parts) (operator : ℕ) (old new : Names) (had : Option ℕ) (within : operator < length p.operators) (are : AreNamesFrom p (operator + 1) old)
    (exist : Exist (λ k. k < length p.operators) new.first) (is_had : had ≡ value_of (operator_names p) old.first (operator_at p operator).name)
    (puts : PutsName (operator_names p) operator old.first new.first) (next_set : new.next.items ≡ slice_set old.next.items operator had) where
  lowest_of : (name : List ℕ) → IsNextNamed p name operator (value_of (operator_names p) new.first name)
  lowest_of name = grind (arith, pointwise, nat_eq, operator_at, value_of, operator_names, true, bytes_decides, false, true≢false)

  next_of : (k : ℕ) → operator ≤ k → k < length p.operators
      → IsNextNamed p (operator_at p k).name (k + 1) (get_or (slice_set old.next.items operator had) k None)
  next_of k from_on exists = grind (arith, eq-or-lt_of_le, operator_at, get_or, slice_set, get_or-set_same, get_or-set_other)

  -- one operator more
  pub AreNamesFrom-step : AreNamesFrom p operator new
  AreNamesFrom-step = grind (arith, length, length-set, lowest_of, operator_at, get_or, next_of)
