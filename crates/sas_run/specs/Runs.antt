-- Runs: steps that are executable from the initial state, or from another one, with their operators
-- and states.
use Rattle.std.specs.Prelude.{◌≡◌, ℕ, ◌+◌, ◌-◌, ◌≤◌, List, [], length, map, take, slice_index_or, Option, Some, None}
use Rattle.sas_core.specs.declared.parts.Parts.{Parts}
use Rattle.sas_core.specs.Grounded.{operator_at}
use Rattle.sas_core.specs.PlanParts.{PlanParts}
use Rattle.sas_run.specs.declared.plan_check.PlanFault.{PlanFault}
use Rattle.sas_run.specs.declared.plan_check.PlanFault.TheVariants.{Memory, NoOperator, NotApplicable, Conflict, GoalMissed, CostDiffers}
use Rattle.sas_run.specs.ByNumbers.{GoesThroughFrom}
use Rattle.sas_run.specs.Plans.{LeadsTo, IsValid}
use Rattle.sas_run.specs.Verdicts.{IsFaultOf}

-- The names of n steps, their operators, and n + 1 states. The first state is the initial one, and
-- each step leads from one state to the next.
pub record Run : Type 0 where
  pub steps : List (List ℕ)
  pub operators : List ℕ
  pub states : List (List ℕ)

-- the state with this number; after the last state, the empty list
abbrev pub state_at : Run → ℕ → List ℕ
state_at run number = slice_index_or run.states number []

-- the state to which all steps lead
abbrev pub last_state : Run → List ℕ
last_state run = state_at run (length run.steps)

-- the run is executable: for each k its first k steps lead by their operators to state k; `Lead`
-- says which steps lead where
pub record StepsLead (Lead : List (List ℕ) → List ℕ → List ℕ → Type 0) (run : Run) : Type 0 where
  pub operators : length run.operators ≡ length run.steps
  pub states : length run.states ≡ length run.steps + 1
  pub leads : (k : ℕ) → k ≤ length run.steps
      → Lead (take k run.steps) (take k run.operators) (state_at run k)

-- it is executable from the initial state
abbrev pub StepsSucceed : Parts → Run → Type 0
StepsSucceed p = StepsLead (LeadsTo p)

-- the names of these operators
abbrev pub names_of : Parts → List ℕ → List (List ℕ)
names_of p operators = map (λ operator. (operator_at p operator).name) operators

-- it is executable by numbers from the state s, and its steps have the names of their operators
abbrev pub IsRunFrom : Parts → List ℕ → Run → Type 0
IsRunFrom p s = StepsLead (λ steps operators last. GoesThroughFrom p s operators last
    × (steps ≡ names_of p operators))

-- the run is executable, and its steps are the first steps of the plan
pub record IsRunOf (p : Parts) (plan : PlanParts) (run : Run) : Type 0 where
  pub through : StepsSucceed p run
  pub front : run.steps ≡ take (length run.steps) plan.steps

-- the steps that succeed before this fault of the plan
abbrev pub steps_before : PlanParts → PlanFault → List (List ℕ)
steps_before plan (NoOperator step) = take (step - 1) plan.steps
steps_before plan (NotApplicable step) = take (step - 1) plan.steps
steps_before plan (Conflict step operator) = take (step - 1) plan.steps
steps_before plan (GoalMissed index) = plan.steps
steps_before plan (CostDiffers sum) = plan.steps
steps_before plan Memory = plan.steps

-- the plan has this fault after the steps of the run; or it is valid, and these are all its steps
abbrev pub RunEndsWith : Parts → PlanParts → Run → Option PlanFault → Type 0
RunEndsWith p plan run (Some fault) = IsFaultOf p plan fault × (run.steps ≡ steps_before plan fault)
RunEndsWith p plan run None = IsValid p plan run.operators × (run.steps ≡ plan.steps)

-- the plan ends with this fault, or is valid, after a run of these operators
abbrev pub IsEnding : Parts → PlanParts → List ℕ → Option PlanFault → Type 0
IsEnding p plan operators fault = (run : Run) × IsRunOf p plan run × RunEndsWith p plan run fault
    × (run.operators ≡ operators)
