-- Why a plan isn't valid.
use Rattle.std.specs.Prelude.{◌≡◌, ◌≢◌, ℕ, ◌+◌, ◌<◌, List, ◌∷◌, ◌++◌, length, slice_index, slice_index_or}
use Rattle.sas_core.specs.declared.parts.Fact.{Fact}
use Rattle.sas_core.specs.declared.parts.Parts.{Parts}
use Rattle.sas_core.specs.Grounded.{operator_at}
use Rattle.sas_core.specs.PlanParts.{PlanParts}
use Rattle.sas_meaning.specs.States.{Holds, AllHold}
use Rattle.sas_meaning.specs.Steps.{Agree}
use Rattle.sas_names.specs.Named.{IsNamed}
use Rattle.sas_run.specs.declared.plan_check.PlanFault.{PlanFault}
use Rattle.sas_run.specs.declared.plan_check.PlanFault.TheVariants.{Memory, NoOperator, NotApplicable, Conflict, GoalMissed, CostDiffers}
use Rattle.sas_run.specs.Plans.{NoneApplicable, IsChosen, LeadsTo, cost_of_all}

-- the steps before this one are executable and lead to the state s; this step, counted from 1, has
-- this name
pub record ComesTo (p : Parts) (steps : List (List ℕ)) (step : ℕ) (s name : List ℕ) : Type 0 where
  pub before : List (List ℕ)
  pub behind : List (List ℕ)
  pub whole : steps ≡ before ++ name ∷ behind
  pub place : step ≡ length before + 1
  pub operators : List ℕ
  pub leads : LeadsTo p before operators s

-- the index of the first fact that doesn't hold; d is a default for indices that are out of range
pub record IsFirstMissed (value : ℕ → ℕ) (facts : List Fact) (index : ℕ) : Type 0 where
  pub exists : index < length facts
  pub missed : (d : Fact) → Holds value (slice_index_or facts index d) → ⊥
  pub before : (k : ℕ) (d : Fact) → k < index → Holds value (slice_index_or facts k d)

-- The fault of a plan that isn't valid: the first step that fails; or the goal, if no step fails;
-- or the cost, if the goal holds.
abbrev pub IsFaultOf : Parts → PlanParts → PlanFault → Type 0
-- no operator has the step's name
IsFaultOf p plan (NoOperator step) = (s name : List ℕ)
    × ComesTo p plan.steps step s name
    × ((operator : ℕ) → IsNamed p name operator → ⊥)
-- operators have the step's name, but none of them is applicable
IsFaultOf p plan (NotApplicable step) = (s name : List ℕ)
    × ComesTo p plan.steps step s name
    × ((operator : ℕ) × IsNamed p name operator)
    × NoneApplicable p s name
-- the chosen operator has effects that fire and conflict
IsFaultOf p plan (Conflict step operator) = (s name : List ℕ)
    × ComesTo p plan.steps step s name
    × IsChosen p s name operator
    × (Agree s (operator_at p operator).effects → ⊥)
-- all steps succeed, but this fact of the goal doesn't hold; it is the first
IsFaultOf p plan (GoalMissed index) = (operators last : List ℕ)
    × LeadsTo p plan.steps operators last
    × IsFirstMissed (slice_index last) p.goal index
-- all steps succeed and the goal holds, but the operators' costs have another sum
IsFaultOf p plan (CostDiffers sum) = (operators last : List ℕ)
    × LeadsTo p plan.steps operators last
    × AllHold (slice_index last) p.goal
    × (sum ≡ cost_of_all p operators)
    × (sum ≢ plan.cost)
IsFaultOf p plan Memory = ⊥
