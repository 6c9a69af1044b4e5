-- The values to which the effects of a step set variables, as a list with an optional value for
-- each variable. An effect gives a value if it fires.
use Rattle.std.specs.Prelude.{◌≡◌, ◌≢◌, ◌⊎◌, ℕ, ◌<◌, List, [], ◌∷◌, ◌++◌, length, Option, None, Some}
use Rattle.std.specs.Prelude.{slice_index, slice_index_or, slice_set, unwrap_or}
use Rattle.sas_core.specs.declared.parts.Fact.{Fact}
use Rattle.sas_core.specs.declared.parts.Operator.{Operator}
use Rattle.sas_core.specs.declared.parts.Parts.{Parts}
use Rattle.sas_core.specs.Grounded.{effect_at}
use Rattle.sas_core.specs.Variables.{HasValue}
use Rattle.sas_meaning.specs.Steps.{Fires}

-- the list has an entry for each variable, and no value is given
pub record NothingGiven (p : Parts) (given : List (Option ℕ)) : Type 0 where
  pub one_each : length given ≡ length p.variables
  pub none : (var : ℕ) → slice_index_or given var None ≡ None

-- the value that is given to this variable, if any
abbrev pub given_to : List (Option ℕ) → ℕ → Option ℕ
given_to given var = slice_index_or given var None

-- the variable's value after the given values are written into the state
abbrev pub value_after : List (Option ℕ) → List ℕ → ℕ → ℕ
value_after given s var = unwrap_or (given_to given var) (slice_index s var)

-- the given values are exactly those of the first n effects: each that fires gives its new value
pub record IsGiven (p : Parts) (s : List ℕ) (o : Operator) (n : ℕ) (given : List (Option ℕ))
    : Type 0 where
  pub one_each : length given ≡ length p.variables
  pub gives : (k : ℕ) → k < n → Fires s (effect_at o k)
      → given_to given (effect_at o k).var ≡ Some (effect_at o k).new
  pub giver : (var value : ℕ) → given_to given var ≡ Some value
      → (k : ℕ) × (k < n)
      × Fires s (effect_at o k) × ((effect_at o k).var ≡ var) × ((effect_at o k).new ≡ value)

-- each given value is in its variable's range, and an effect of the operator is on this variable
pub record IsGivenTo (p : Parts) (o : Operator) (given : List (Option ℕ)) : Type 0 where
  pub one_each : length given ≡ length p.variables
  pub value : (var value : ℕ) → given_to given var ≡ Some value → HasValue p.variables var value
  pub effect : (var value : ℕ) → given_to given var ≡ Some value
      → (k : ℕ) × (k < length o.effects) × ((effect_at o k).var ≡ var)

-- the variable had no given value or this one, and has this one now; all others are unchanged
pub record GivesValue (given : List (Option ℕ)) (var value : ℕ) (given' : List (Option ℕ))
    : Type 0 where
  pub before : (earlier : ℕ) → given_to given var ≡ Some earlier → earlier ≡ value
  pub now : given' ≡ slice_set given var (Some value)

-- another value was given to the variable; nothing changes
pub record GivesOther (given : List (Option ℕ)) (var value : ℕ) (given' : List (Option ℕ))
    : Type 0 where
  pub other : (earlier : ℕ) × (given_to given var ≡ Some earlier) × (earlier ≢ value)
  pub now : given' ≡ given

-- the fact is made true in the state s: if another fact on its variable held, that one is added to
-- the deleted facts
abbrev pub Replaces : List ℕ → Fact → List Fact → List Fact → Type 0
Replaces s fact deleted deleted' =
    ((slice_index s fact.var ≡ fact.value) × (deleted' ≡ deleted))
    ⊎ ((slice_index s fact.var ≢ fact.value)
    × (deleted' ≡ deleted ++ (record { var = fact.var; value = slice_index s fact.var }) ∷ []))
