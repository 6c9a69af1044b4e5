-- Consequences of the definitions: a valid plan is valid in other senses, too.
use Rattle.std.specs.Prelude.{◌≡◌, ℕ, List}
use Rattle.sas_core.specs.declared.parts.Parts.{Parts}
use Rattle.sas_core.specs.PlanParts.{PlanParts}
use Rattle.sas_meaning.specs.Layers.{IsLayered}
use Rattle.sas_meaning.specs.InitialStates.{IsInitial}
use Rattle.sas_meaning.specs.FastDownward.{FastDownwardStep}
use Rattle.sas_run.specs.Plans.{IsValid}
use Rattle.sas_run.specs.ByNumbers.{OperatorsLead}
use Rattle.sas_run.specs.OtherSenses.{ReachGoal, IsUsuallyValid}

-- a valid plan is valid in the usual sense; the converse doesn't hold, since the first applicable
-- operator of a name may lead elsewhere
abbrev pub ValidIsUsuallyValid : Type 0
ValidIsUsuallyValid = (p : Parts) (plan : PlanParts) (operators : List ℕ)
    → IsValid p plan operators → IsUsuallyValid p plan operators

-- the operators of a valid plan reach the goal by steps of Fast Downward's search
abbrev pub ValidInFastDownward : Type 0
ValidInFastDownward = (p : Parts) (plan : PlanParts) (operators : List ℕ)
    → IsValid p plan operators → ReachGoal p (FastDownwardStep p) operators

-- and lead to no other state
abbrev pub EndsInFastDownward : Type 0
EndsInFastDownward = (p : Parts) (plan : PlanParts) (operators initial last : List ℕ) → IsLayered p
    → (valid : IsValid p plan operators) → IsInitial p initial
    → OperatorsLead p (FastDownwardStep p) initial operators last → last ≡ valid.last
