-- Consequences of the definitions: in a layered task the values of the basic variables determine
-- those of the derived variables.
use Rattle.std.specs.Prelude.{◌≡◌, ℕ, List}
use Rattle.sas_core.specs.declared.parts.Operator.{Operator}
use Rattle.sas_core.specs.declared.parts.Parts.{Parts}
use Rattle.sas_core.specs.Variables.{IsState}
use Rattle.sas_core.specs.WellRanged.{WellRanged}
use Rattle.sas_meaning.specs.Layers.{IsLayered}
use Rattle.sas_meaning.specs.Settled.{Settles}
use Rattle.sas_meaning.specs.Steps.{Step}
use Rattle.sas_meaning.specs.InitialStates.{IsInitial}

-- for all values of the basic variables there is a settled state
abbrev pub SettledExists : Type 0
SettledExists = (p : Parts) (s : List ℕ) → WellRanged p → IsLayered p → IsState p.variables s
    → (s' : List ℕ) × Settles p s s'

-- and it is unique
abbrev pub SettledIsOne : Type 0
SettledIsOne = (p : Parts) (s a b : List ℕ) → IsLayered p → Settles p s a → Settles p s b → a ≡ b

-- therefore an initial state exists
abbrev pub InitialExists : Type 0
InitialExists = (p : Parts) → WellRanged p → IsLayered p → (s : List ℕ) × IsInitial p s

-- and it is unique
abbrev pub InitialIsOne : Type 0
InitialIsOne = (p : Parts) (a b : List ℕ) → IsLayered p → IsInitial p a → IsInitial p b → a ≡ b

-- an operator leads from a state to at most one state
abbrev pub StepIsOne : Type 0
StepIsOne = (p : Parts) (s : List ℕ) (o : Operator) (a b : List ℕ) → IsLayered p → Step p s o a
    → Step p s o b → a ≡ b
