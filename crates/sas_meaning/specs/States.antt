-- Which facts hold in a state. A state of a task is the list of the values of its variables, one
-- for each variable and in its range (`IsState` of sas_core). Whether a fact holds is defined for
-- any function from variables to values; the function of a state s is `slice_index s`. It is only
-- used for facts that exist, since `slice_index` is 0 past the end of a list.
use Rattle.std.specs.Prelude.{◌≡◌, ℕ, List, All}
use Rattle.sas_core.specs.declared.parts.Fact.{Fact}

-- a fact holds if its variable has its value
abbrev pub Holds : (ℕ → ℕ) → Fact → Type 0
Holds value fact = value fact.var ≡ fact.value

abbrev pub AllHold : (ℕ → ℕ) → List Fact → Type 0
AllHold value facts = All (Holds value) facts
