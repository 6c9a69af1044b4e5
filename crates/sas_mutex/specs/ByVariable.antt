-- The effects of large operators, grouped by the variables that they set.
use Rattle.std.specs.Prelude.{◌≡◌, ℕ, ◌+◌, ◌*◌, ◌%◌, ◌<◌, List, [], length, slice_index_or, Contains}
use Rattle.sas_core.specs.declared.parts.Parts.{Parts}
use Rattle.sas_core.specs.Grounded.{operator_at, effect_at}
use Rattle.sas_flat.specs.declared.by_key.Entry.{Entry}

-- the operator is large: it has more than 16 effects
abbrev pub IsLarge : Parts → ℕ → Type 0
IsLarge p operator = 16 < length (operator_at p operator).effects

-- the hash of an operator and a variable, below `places`; other pairs may have the same hash
abbrev pub place_of : ℕ → ℕ → ℕ → ℕ
place_of operator var places = (operator * 2654435769 + var) % places

-- the variable that an effect of an operator sets
abbrev pub variable_of : Parts → ℕ → ℕ → ℕ
variable_of p operator effect = (effect_at (operator_at p operator) effect).var

-- the entry for an effect
abbrev pub effect_entry : Parts → ℕ → ℕ → ℕ → Entry ℕ
effect_entry p places operator effect =
    record { key = place_of operator (variable_of p operator effect) places; item = effect }

-- the entries of the first effects of the operator were added, and no entry was removed
pub record AreEntered (p : Parts) (places operator effects : ℕ) (before after : List (Entry ℕ))
    : Type 0 where
  pub each : (effect : ℕ) → effect < effects
      → Contains after (effect_entry p places operator effect)
  pub still : (entry : Entry ℕ) → Contains before entry → Contains after entry

-- the list contains all effects of the operator that set the variable
abbrev pub AreOn : Parts → ℕ → ℕ → List ℕ → Type 0
AreOn p operator var effects = (effect : ℕ) → effect < length (operator_at p operator).effects
    → variable_of p operator effect ≡ var → Contains effects effect

-- for each large operator and each variable, the list contains all its effects that set the
-- variable
pub record AreByVariable (p : Parts) (lists : List (List ℕ)) : Type 0 where
  pub some : 0 < length lists
  pub are : (operator : ℕ) → operator < length p.operators → IsLarge p operator → (var : ℕ)
      → AreOn p operator var (slice_index_or lists (place_of operator var (length lists)) [])
