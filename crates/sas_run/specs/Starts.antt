-- The start of a plan by numbers, as it is given: the values of a state, or none for the initial
-- state.
use Rattle.std.specs.Prelude.{◌≡◌, ◌≢◌, ⊤, ℕ, ◌<◌, List, [], ◌∷◌, length, slice_index}
use Rattle.sas_core.specs.declared.parts.Parts.{Parts}
use Rattle.sas_core.specs.Variables.{HasValue, IsState}
use Rattle.sas_run.specs.declared.starts.StartFault.{StartFault}
use Rattle.sas_run.specs.declared.starts.StartFault.TheVariants.{Count, Value}

-- no values are given, or those of a state
abbrev pub IsStart : Parts → List ℕ → Type 0
IsStart p [] = ⊤
IsStart p (value ∷ values) = IsState p.variables (value ∷ values)

-- the values that the plan starts from
abbrev pub start_of : Parts → List ℕ → List ℕ
start_of p [] = p.init
start_of p (value ∷ values) = value ∷ values

-- why the values that are given aren't those of a state: there isn't one for each variable, or else
-- this variable is the first that doesn't have its value
abbrev pub IsStateFault : Parts → List ℕ → StartFault → Type 0
IsStateFault p given (Count values variables) = (values ≡ length given)
    × (variables ≡ length p.variables)
    × (values ≢ variables)
IsStateFault p given (Value var) = (length given ≡ length p.variables)
    × (var < length given)
    × (HasValue p.variables var (slice_index given var) → ⊥)
    × ((lower : ℕ) → lower < var → HasValue p.variables lower (slice_index given lower))

-- values are given, and this is why they aren't those of a state
abbrev pub IsStartFault : Parts → List ℕ → StartFault → Type 0
IsStartFault p [] fault = ⊥
IsStartFault p (value ∷ values) fault = IsStateFault p (value ∷ values) fault
