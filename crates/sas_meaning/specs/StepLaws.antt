-- Consequences of the definitions of steps, here and in Fast Downward's search.
use Rattle.std.specs.Prelude.{◌≡◌, ◌↔◌, ℕ, ◌==◌, Bool, if◌then◌else◌, List, [], ◌∷◌, Contains, slice_index, slice_set}
use Rattle.std.specs.List.{list_all}
use Rattle.sas_core.specs.declared.parts.Fact.{Fact}
use Rattle.sas_core.specs.declared.parts.Effect.{Effect}
use Rattle.sas_core.specs.declared.parts.Operator.{Operator}
use Rattle.sas_core.specs.declared.parts.Parts.{Parts}
use Rattle.sas_core.specs.Variables.{IsState}
use Rattle.sas_core.specs.WellRanged.{WellRanged}
use Rattle.sas_meaning.specs.States.{AllHold}
use Rattle.sas_meaning.specs.Layers.{IsLayered}
use Rattle.sas_meaning.specs.Settled.{Settles}
use Rattle.sas_meaning.specs.Steps.{preconditions, Agree, Step}
use Rattle.sas_meaning.specs.Reachable.{Reachable}
use Rattle.sas_meaning.specs.FastDownward.{FastDownwardStep, FastDownwardReachable, AlwaysAgree}

-- if the preconditions hold and the effects that fire agree, there is a next state; by `StepIsOne`
-- it is the only one
abbrev pub StepExists : Type 0
StepExists = (p : Parts) (s : List ℕ) (o : Operator) → WellRanged p → IsLayered p
    → IsState p.variables s → Contains p.operators o → AllHold (slice_index s) (preconditions o)
    → Agree s o.effects → (s' : List ℕ) × Step p s o s'

-- ---- Fast Downward

-- if the preconditions hold, there is a next state in Fast Downward
abbrev pub FastDownwardStepExists : Type 0
FastDownwardStepExists = (p : Parts) (s : List ℕ) (o : Operator) → WellRanged p → IsLayered p
    → IsState p.variables s → Contains p.operators o → AllHold (slice_index s) (preconditions o)
    → (s' : List ℕ) × FastDownwardStep p s o s'

-- and there is at most one
abbrev pub FastDownwardStepIsOne : Type 0
FastDownwardStepIsOne = (p : Parts) (s : List ℕ) (o : Operator) (a b : List ℕ) → IsLayered p
    → FastDownwardStep p s o a → FastDownwardStep p s o b → a ≡ b

-- a step is one of Fast Downward, too
abbrev pub StepIsFastDownwards : Type 0
StepIsFastDownwards = (p : Parts) (s : List ℕ) (o : Operator) (s' : List ℕ)
    → Step p s o s' → FastDownwardStep p s o s'

-- and the other way round, if the effects that fire agree
abbrev pub FastDownwardStepIsStep : Type 0
FastDownwardStepIsStep = (p : Parts) (s : List ℕ) (o : Operator) (s' : List ℕ) → IsLayered p
    → Contains p.operators o → Agree s o.effects → FastDownwardStep p s o s' → Step p s o s'

-- Fast Downward's search reaches all reachable states
abbrev pub FastDownwardReaches : Type 0
FastDownwardReaches = (p : Parts) (s : List ℕ) → Reachable p s → FastDownwardReachable p s

-- and no others, if the effects that fire in reachable states agree
abbrev pub FastDownwardReachesNoMore : Type 0
FastDownwardReachesNoMore = (p : Parts) (s : List ℕ) → IsLayered p → AlwaysAgree p
    → FastDownwardReachable p s → Reachable p s

-- whether an effect fires
abbrev pub fires : List ℕ → Effect → Bool
fires s e = list_all (λ (fact : Fact). slice_index s fact.var == fact.value) e.conditions

-- the values after each effect that fires in s was written over them, in the order of the file
abbrev pub written : List ℕ → List Effect → List ℕ → List ℕ
written s [] values = values
written s (e ∷ effects) values =
    written s effects (if fires s e then slice_set values e.var e.new else values)

-- so Fast Downward's step is to write the effects that fire over s, one after another, and to
-- settle the result
abbrev pub FastDownwardWrites : Type 0
FastDownwardWrites = (p : Parts) (s : List ℕ) (o : Operator) (s' : List ℕ) → WellRanged p
    → IsState p.variables s → Contains p.operators o
    → FastDownwardStep p s o s'
    ↔ AllHold (slice_index s) (preconditions o) × Settles p (written s o.effects s) s'
