-- What follows from the definitions: a plan of a layered task is valid in one way, or has exactly
-- one fault. Its steps lead to a reachable state, and are those of exactly one run. A plan by names
-- is one by numbers, of the operators that the names mean. What is left of a plan by numbers is
-- valid where it has come to, exactly if the plan is.
use Rattle.std.specs.Prelude.{◌≡◌, ◌↔◌, ◌⊎◌, ℕ, ◌-◌, ◌<◌, ◌≤◌, List, [], ◌++◌, length, take, slice_index, slice_index_or}
use Rattle.sas_core.specs.declared.parts.Parts.{Parts}
use Rattle.sas_core.specs.PlanParts.{PlanParts}
use Rattle.sas_core.specs.Variables.{IsState}
use Rattle.sas_core.specs.WellRanged.{WellRanged}
use Rattle.sas_meaning.specs.Layers.{IsLayered}
use Rattle.sas_meaning.specs.Reachable.{Reachable}
use Rattle.sas_run.specs.declared.plan_check.PlanFault.{PlanFault}
use Rattle.sas_run.specs.ByNumbers.{GoesThrough, GoesThroughFrom, IsValidByNumbers, IsValidFrom}
use Rattle.sas_run.specs.NumberFaults.{IsFaultFrom}
use Rattle.sas_run.specs.Plans.{IsChosen, LeadsTo, IsValid, cost_of_all}
use Rattle.sas_run.specs.Runs.{Run, last_state, StepsSucceed}
use Rattle.sas_run.specs.Verdicts.{IsFaultOf}

-- a plan is valid or has a fault
abbrev pub SomeVerdict : Type 0
SomeVerdict = (p : Parts) (plan : PlanParts) → WellRanged p → IsLayered p
    → ((operators : List ℕ) × IsValid p plan operators)
    ⊎ ((fault : PlanFault) × IsFaultOf p plan fault)

-- a valid plan has no fault
abbrev pub ValidHasNoFault : Type 0
ValidHasNoFault = (p : Parts) (plan : PlanParts) (operators : List ℕ) (fault : PlanFault)
    → IsLayered p → IsValid p plan operators → IsFaultOf p plan fault → ⊥

-- a plan is valid with at most one list of operators
abbrev pub ValidIsOne : Type 0
ValidIsOne = (p : Parts) (plan : PlanParts) (a b : List ℕ) → IsLayered p
    → IsValid p plan a → IsValid p plan b → a ≡ b

-- a plan has at most one fault
abbrev pub FaultIsOne : Type 0
FaultIsOne = (p : Parts) (plan : PlanParts) (a b : PlanFault) → IsLayered p
    → IsFaultOf p plan a → IsFaultOf p plan b → a ≡ b

-- steps that are executable from the initial state lead to a reachable state
abbrev pub LeadsToReachable : Type 0
LeadsToReachable = (p : Parts) (steps : List (List ℕ)) (operators last : List ℕ)
    → LeadsTo p steps operators last → Reachable p last

-- so the last state of a valid plan is reachable
abbrev pub LastIsReachable : Type 0
LastIsReachable = (p : Parts) (plan : PlanParts) (operators : List ℕ)
    (valid : IsValid p plan operators) → Reachable p valid.last

-- executable steps are those of a run, with the same operators and the same last state
abbrev pub SomeRun : Type 0
SomeRun = (p : Parts) (steps : List (List ℕ)) (operators last : List ℕ)
    → LeadsTo p steps operators last
    → (run : Run) × StepsSucceed p run × (run.steps ≡ steps) × (run.operators ≡ operators)
    × (last_state run ≡ last)

-- in a layered task there is only one such run
abbrev pub OneRun : Type 0
OneRun = (p : Parts) (a b : Run) → IsLayered p → StepsSucceed p a → StepsSucceed p b
    → a.steps ≡ b.steps → a ≡ b

-- each operator is the one that its step's name means in the state to which those before it lead
pub record AreChosen (p : Parts) (steps : List (List ℕ)) (operators : List ℕ) : Type 0 where
  pub one_each : length operators ≡ length steps
  pub each : (step : ℕ) (s : List ℕ) → step < length steps → GoesThrough p (take step operators) s
      → IsChosen p s (slice_index_or steps step []) (slice_index operators step)

-- a plan of a layered task is valid with some operators exactly if its names mean them, and they
-- are valid by numbers
abbrev pub ValidByNumbers : Type 0
ValidByNumbers = (p : Parts) (plan : PlanParts) (operators : List ℕ) → IsLayered p
    → IsValid p plan operators
    ↔ (AreChosen p plan.steps operators × IsValidByNumbers p operators plan.cost)

-- by numbers, too, a plan is valid or has a fault, from the initial state and from any other
abbrev pub SomeVerdictByNumbers : Type 0
SomeVerdictByNumbers = (p : Parts) (s operators : List ℕ) (cost : ℕ) → WellRanged p → IsLayered p
    → IsState p.variables s
    → IsValidFrom p s operators cost ⊎ ((fault : PlanFault) × IsFaultFrom p s operators cost fault)

-- not both
abbrev pub NumbersHaveNoFault : Type 0
NumbersHaveNoFault = (p : Parts) (s operators : List ℕ) (cost : ℕ) (fault : PlanFault)
    → IsLayered p → IsValidFrom p s operators cost → IsFaultFrom p s operators cost fault → ⊥

-- and at most one fault
abbrev pub FaultByNumbersIsOne : Type 0
FaultByNumbersIsOne = (p : Parts) (s operators : List ℕ) (cost : ℕ) (a b : PlanFault)
    → IsLayered p → IsFaultFrom p s operators cost a → IsFaultFrom p s operators cost b → a ≡ b

-- The theorem of execution monitoring: where the operators that were made lead from `start` to the
-- state s, they and the rest are valid from `start` at a cost exactly if the rest is valid from s
-- at what is left of the cost.
abbrev pub RestIsValid : Type 0
RestIsValid = (p : Parts) (start made rest s : List ℕ) (cost : ℕ) → IsLayered p
    → GoesThroughFrom p start made s
    → IsValidFrom p start (made ++ rest) cost
    ↔ ((cost_of_all p made ≤ cost) × IsValidFrom p s rest (cost - cost_of_all p made))
