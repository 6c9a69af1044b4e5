-- The operators of a task by their names.
use Rattle.std.specs.Prelude.{◌≡◌, ℕ, ◌<◌, ◌≤◌, List, [], length, Option, None, Some, nat_lt, if◌then◌else◌, slice_index, slice_index_or}
use Rattle.sas_core.specs.declared.parts.Parts.{Parts}
use Rattle.sas_names.specs.Named.{IsNamed}

-- the lowest operator of this name, among those from number `from` on
pub record IsLowestNamed (p : Parts) (name : List ℕ) (from operator : ℕ) : Type 0 where
  pub from_on : from ≤ operator
  pub of_name : IsNamed p name operator
  pub first : (lower : ℕ) → from ≤ lower → lower < operator → IsNamed p name lower → ⊥

-- the result is the lowest operator of this name from number `from` on, or `None` if there is none
abbrev pub IsNextNamed : Parts → List ℕ → ℕ → Option ℕ → Type 0
IsNextNamed p name from (Some operator) = IsLowestNamed p name from operator
IsNextNamed p name from None = (operator : ℕ) → from ≤ operator → IsNamed p name operator → ⊥

-- the operator with this number, if any
abbrev pub existing : Parts → ℕ → Option ℕ
existing p number = if nat_lt number (length p.operators) then Some number else None

-- the number of the lowest operator of each step's name, or of no operator if none has the name
pub record AreFirsts (p : Parts) (steps : List (List ℕ)) (firsts : List ℕ) : Type 0 where
  pub one_each : length firsts ≡ length steps
  pub each : (step : ℕ) → step < length steps
      → IsNextNamed p (slice_index_or steps step []) 0 (existing p (slice_index firsts step))
