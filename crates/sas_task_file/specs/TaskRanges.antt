-- The ranges of the variables of a task, which decide which facts exist.
use Rattle.std.specs.Prelude.{ℕ, Bool, nat_lt, ◌&&◌, List, length, map, slice_get, Option, Some, None}
use Rattle.std.specs.Option.{option_map_or}
use Rattle.std.specs.List.{list_all}
use Rattle.sas_core.specs.declared.grounded.Change.{Change}
use Rattle.sas_core.specs.declared.parts.Effect.{Effect}
use Rattle.sas_core.specs.declared.parts.Fact.{Fact}
use Rattle.sas_core.specs.declared.parts.Variable.{Variable}

-- the number of values of each variable
abbrev pub ranges_of : List Variable → List ℕ
ranges_of variables = map (λ (v : Variable). length v.values) variables

-- the number of values of a variable; 0 if there is no such variable
abbrev pub range_in : List ℕ → ℕ → ℕ
range_in ranges var = option_map_or (λ (n : ℕ). n) (slice_get ranges var) 0

-- the variable exists and has the value
abbrev pub value_in : List ℕ → ℕ → ℕ → Bool
value_in ranges var value = nat_lt value (range_in ranges var)

-- the fact exists
abbrev pub fact_in_ranges : List ℕ → Fact → Bool
fact_in_ranges ranges f = value_in ranges f.var f.value

-- the variable exists, and its new value and its old value, if any, are in its range
abbrev pub change_in_ranges : List ℕ → ℕ → Option ℕ → ℕ → Bool
change_in_ranges ranges var None new = value_in ranges var new
change_in_ranges ranges var (Some old) new = value_in ranges var old && value_in ranges var new

-- the variable and values of a head exist
abbrev pub head_in_ranges : List ℕ → Change → Bool
head_in_ranges ranges h = change_in_ranges ranges h.var h.old h.new

-- the conditions of an effect exist, and so do its variable and values
abbrev pub effect_in_ranges : List ℕ → Effect → Bool
effect_in_ranges ranges e = list_all (fact_in_ranges ranges) e.conditions
    && change_in_ranges ranges e.var e.old e.new
