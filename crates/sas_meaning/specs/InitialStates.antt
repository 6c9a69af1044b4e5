-- The initial state of a task.
use Rattle.std.specs.Prelude.{ℕ, List}
use Rattle.sas_core.specs.declared.parts.Parts.{Parts}
use Rattle.sas_meaning.specs.Settled.{Settles}

-- basic variables have their values in the state section, and derived variables the values that
-- follow from the rules
abbrev pub IsInitial : Parts → List ℕ → Type 0
IsInitial p s = Settles p p.init s
