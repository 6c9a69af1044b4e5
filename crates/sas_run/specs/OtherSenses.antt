-- What a valid plan is elsewhere: in the usual sense, in which a step may stand for any operator of
-- its name, and in Fast Downward's search.
use Rattle.std.specs.Prelude.{ℕ, List, slice_index}
use Rattle.std.specs.List.{AllZip}
use Rattle.sas_core.specs.declared.parts.Operator.{Operator}
use Rattle.sas_core.specs.declared.parts.Parts.{Parts}
use Rattle.sas_core.specs.PlanParts.{PlanParts}
use Rattle.sas_meaning.specs.States.{AllHold}
use Rattle.sas_meaning.specs.InitialStates.{IsInitial}
use Rattle.sas_run.specs.ByNumbers.{OperatorsLead, IsValidByNumbers}
use Rattle.sas_names.specs.Named.{IsNamed}

-- the plan is valid in the usual sense: these operators have the names of its steps, and are a valid
-- plan of its cost
pub record IsUsuallyValid (p : Parts) (plan : PlanParts) (operators : List ℕ) : Type 0 where
  pub names : AllZip (IsNamed p) plan.steps operators
  pub valid : IsValidByNumbers p operators plan.cost

-- the operators with these numbers lead from the initial state to a state in which the goal holds;
-- `IsStep` says how one leads to the next state
pub record ReachGoal (p : Parts) (IsStep : List ℕ → Operator → List ℕ → Type 0)
    (operators : List ℕ) : Type 0 where
  pub initial : List ℕ
  pub starts : IsInitial p initial
  pub last : List ℕ
  pub lead : OperatorsLead p IsStep initial operators last
  pub goal : AllHold (slice_index last) p.goal
