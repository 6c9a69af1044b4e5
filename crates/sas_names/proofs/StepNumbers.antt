-- The numbers of steps' names, after one more name is numbered.
use Rattle.sas_names.proofs.Imports.{◌≡◌, ℕ, ◌<◌, ◌⊎◌, true, false, List, length, nat_eq, Option, None, Some, arith, pointwise, bytes_decides, none-some, same_Some, NameTable, IsEmptyTable, Exist, PutsName, value_of, AreStepsOf, Numbers, step_names}
use Rattle.sas_names.proofs.TablePuts.{value_of-empty}

-- no step has a number yet
pub AreStepsOf-start : (steps : List (List ℕ)) (table : NameTable ℕ) → IsEmptyTable table → AreStepsOf steps table
AreStepsOf-start steps table empty = grind (arith, length, none-some, value_of, step_names, value_of-empty)

-- a name that has a number keeps it
pub Numbers-same : (steps : List (List ℕ)) (name : List ℕ) (number : ℕ) (table : NameTable ℕ) → AreStepsOf steps table
    → value_of (step_names steps) table name ≡ Some number → Numbers steps name number table table
Numbers-same steps name number table are is = record { is = is; kept = λ other k e. e; numbers = are }

module _ (steps : List (List ℕ)) (m n : NameTable ℕ) (step : ℕ) (within : step < length steps)
    (are : AreStepsOf steps m) (new : value_of (step_names steps) m (step_names steps step) ≡ None)
    (puts : PutsName (step_names steps) step m n) (exist : Exist (λ k. k < length steps) n) where
  abbrev name : List ℕ
  name = step_names steps step

  abbrev before : List ℕ → Option ℕ
  before other = value_of (step_names steps) m other

  abbrev after : List ℕ → Option ℕ
  after other = value_of (step_names steps) n other

  -- which names have a number
  of_new : (other : List ℕ) (k : ℕ) → after other ≡ Some k → ((name ≡ other) × (step ≡ k)) ⊎ (before other ≡ Some k)
  of_new other k e = grind (arith, pointwise, nat_eq, true, bytes_decides, same_Some, false)

  kept : (other : List ℕ) (k : ℕ) → before other ≡ Some k → after other ≡ Some k
  kept other k e = grind (arith, pointwise, nat_eq, true, none-some, bytes_decides, false)

  -- a new name has the number of its step
  pub Numbers-new : Numbers steps name step m n
  Numbers-new = grind (arith, bytes_decides, kept, of_new, step_names)
