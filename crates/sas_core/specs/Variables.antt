-- The variables of a task and their facts. Variables and values are identified by their index,
-- counted from 0.
use Rattle.std.specs.Prelude.{◌≡◌, ℕ, ◌<◌, Bool, nat_lt, List, length, slice_get, slice_index, Option, None, Some, IsSome, option_and_then}
use Rattle.std.specs.Option.{option_map_or}
use Rattle.sas_core.specs.declared.parts.Fact.{Fact}
use Rattle.sas_core.specs.declared.parts.Variable.{Variable}

-- the number of values of a variable; 0 if the variable doesn't exist
abbrev pub range_of : List Variable → ℕ → ℕ
range_of variables var =
    option_map_or (λ (v : Variable). length v.values) (slice_get variables var) 0

-- the layer of a derived variable; none for a basic variable
abbrev pub layer_of : List Variable → ℕ → Option ℕ
layer_of variables var = option_and_then (λ (v : Variable). v.layer) (slice_get variables var)

-- the name of a value of a variable; none if the variable doesn't have this value
abbrev pub value_name : List Variable → ℕ → ℕ → Option (List ℕ)
value_name variables var value =
    option_and_then (λ (v : Variable). slice_get v.values value) (slice_get variables var)

-- a variable is derived if it has a layer
abbrev pub IsDerived : List Variable → ℕ → Type 0
IsDerived variables var = IsSome (layer_of variables var)

-- the variable exists and has this value
abbrev pub HasValue : List Variable → ℕ → ℕ → Type 0
HasValue variables var value = value < range_of variables var

abbrev pub has_value : List Variable → ℕ → ℕ → Bool
has_value variables var value = nat_lt value (range_of variables var)

-- if a value is given, the variable exists and has this value
abbrev pub MayHaveValue : List Variable → ℕ → Option ℕ → Type 0
MayHaveValue variables var None = Unit {0}
MayHaveValue variables var (Some value) = HasValue variables var value

-- a fact exists if its variable exists and has this value
abbrev pub FactExists : List Variable → Fact → Type 0
FactExists variables fact = HasValue variables fact.var fact.value

abbrev pub fact_exists : List Variable → Fact → Bool
fact_exists variables fact = has_value variables fact.var fact.value

-- a state: one value for each variable, in its range
pub record IsState (variables : List Variable) (values : List ℕ) : Type 0 where
  pub one_each : length values ≡ length variables
  pub in_range : (var : ℕ) → var < length variables
      → slice_index values var < range_of variables var
