-- What the functions of a runner return.
use Rattle.std.specs.Prelude.{◌≡◌, ◌≢◌, ℕ, ◌<◌, ◌≤◌, List, length, All, slice_index, slice_index_or, Option, None, Some, Result, Ok, Err}
use Rattle.sas_core.specs.declared.parts.Fact.{Fact}
use Rattle.sas_core.specs.declared.parts.Effect.{Effect}
use Rattle.sas_core.specs.declared.parts.Operator.{Operator}
use Rattle.sas_core.specs.declared.parts.Parts.{Parts}
use Rattle.sas_core.specs.Grounded.{operator_at, effect_at}
use Rattle.sas_core.specs.PlanParts.{PlanParts}
use Rattle.sas_core.specs.Variables.{IsState}
use Rattle.sas_meaning.specs.States.{AllHold}
use Rattle.sas_meaning.specs.Steps.{preconditions, Fires, Agree, Step}
use Rattle.sas_names.specs.Named.{IsNamed}
use Rattle.sas_run.specs.declared.plan_check.PlanFault.{PlanFault}
use Rattle.sas_run.specs.declared.plan_check.PlanFault.TheVariants as plan_fault
use Rattle.sas_run.specs.declared.plan_check.Valid.{Valid}
use Rattle.sas_run.specs.declared.choice.Choice.{Choice}
use Rattle.sas_run.specs.declared.choice.Choice.TheVariants.{Unknown, Blocked, Found}
use Rattle.sas_run.specs.declared.steps.StepFault.{StepFault}
use Rattle.sas_run.specs.declared.steps.StepFault.TheVariants as step_fault
use Rattle.sas_run.specs.Plans.{IsApplicable, NoneApplicable, IsChosen, IsValid, cost_of_all}
use Rattle.sas_run.specs.Verdicts.{IsFirstMissed, IsFaultOf}

-- which operator a name means in a state: no operator has the name, no operator of the name is
-- applicable, or the chosen operator
abbrev pub IsChoice : Parts → List ℕ → List ℕ → Choice → Type 0
IsChoice p s name Unknown = (operator : ℕ) → IsNamed p name operator → ⊥
IsChoice p s name Blocked = ((operator : ℕ) × IsNamed p name operator)
    × NoneApplicable p s name
IsChoice p s name (Found operator) = IsChosen p s name operator

-- the lowest applicable operator of the same name, from this one on, or `None` if there is none
abbrev pub IsFirstChosen : Parts → List ℕ → ℕ → Option ℕ → Type 0
IsFirstChosen p s first None = (operator : ℕ) → first ≤ operator
    → IsNamed p (operator_at p first).name operator → IsApplicable s (operator_at p operator) → ⊥
IsFirstChosen p s first (Some operator) = (first ≤ operator)
    × IsNamed p (operator_at p first).name operator
    × IsApplicable s (operator_at p operator)
    × ((lower : ℕ) → first ≤ lower → lower < operator → IsNamed p (operator_at p first).name lower
    → IsApplicable s (operator_at p lower) → ⊥)

-- `later` is an applicable operator of the same name with a higher number
pub record IsLater (p : Parts) (s : List ℕ) (operator later : ℕ) : Type 0 where
  pub above : operator < later
  pub of_name : IsNamed p (operator_at p operator).name later
  pub applicable : IsApplicable s (operator_at p later)

-- the lowest such operator, or `None` if there is none
abbrev pub IsLaterIfAny : Parts → List ℕ → ℕ → Option ℕ → Type 0
IsLaterIfAny p s operator None = (later : ℕ) → IsLater p s operator later → ⊥
IsLaterIfAny p s operator (Some later) = IsLater p s operator later
    × ((lower : ℕ) → lower < later → IsLater p s operator lower → ⊥)

-- both effects set the same variable, but to different values
pub record Contradicts (e f : Effect) : Type 0 where
  pub var : e.var ≡ f.var
  pub new : e.new ≢ f.new

-- the effect fires and contradicts an earlier one that fires; it is the first such effect
pub record IsFirstConflict (s : List ℕ) (o : Operator) (effect : ℕ) : Type 0 where
  pub exists : effect < length o.effects
  pub fires : Fires s (effect_at o effect)
  pub earlier : ℕ
  pub before : earlier < effect
  pub earlier_fires : Fires s (effect_at o earlier)
  pub contradicts : Contradicts (effect_at o earlier) (effect_at o effect)
  pub first : (e f : ℕ) → e < f → f < effect → Fires s (effect_at o e) → Fires s (effect_at o f)
      → Contradicts (effect_at o e) (effect_at o f) → ⊥

-- this fact is the first that doesn't hold
abbrev pub IsFirstMissedFact : (ℕ → ℕ) → List Fact → Fact → Type 0
IsFirstMissedFact value facts fact = (index : ℕ)
    × IsFirstMissed value facts index
    × ((d : Fact) → slice_index_or facts index d ≡ fact)

-- why an operator has no step: the first precondition that doesn't hold, or the first conflict if
-- all preconditions hold
abbrev pub IsStepFault : List ℕ → Operator → StepFault → Type 0
IsStepFault s o (step_fault.NotApplicable fact) =
    IsFirstMissedFact (slice_index s) (preconditions o) fact
IsStepFault s o (step_fault.Conflict effect) =
    AllHold (slice_index s) (preconditions o) × IsFirstConflict s o effect

-- the state after the effects that fire, before the derived variables are computed
pub record IsApplied (p : Parts) (s : List ℕ) (o : Operator) (s' : List ℕ) : Type 0 where
  pub applicable : AllHold (slice_index s) (preconditions o)
  pub agree : Agree s o.effects
  pub state : IsState p.variables s'
  pub set : All (λ (e : Effect). Fires s e → slice_index s' e.var ≡ e.new) o.effects
  pub kept : (var : ℕ) → All (λ (e : Effect). Fires s e → e.var ≢ var) o.effects
      → slice_index s' var ≡ slice_index s var

-- the effects were applied, or there is a fault and the state is unchanged
abbrev pub Applies : Parts → List ℕ → ℕ → List ℕ → Result (Unit {0}) StepFault → Type 0
Applies p s operator s' (Ok _) = IsApplied p s (operator_at p operator) s'
Applies p s operator s' (Err fault) = IsStepFault s (operator_at p operator) fault × (s' ≡ s)

-- the step was made, or there is a fault and the state is unchanged
abbrev pub Steps : Parts → List ℕ → ℕ → List ℕ → Result (Unit {0}) StepFault → Type 0
Steps p s operator s' (Ok _) = Step p s (operator_at p operator) s'
Steps p s operator s' (Err fault) = IsStepFault s (operator_at p operator) fault × (s' ≡ s)

-- the first fact of the goal that doesn't hold, or `None` if the goal holds
abbrev pub IsGoalAnswer : List ℕ → List Fact → Option ℕ → Type 0
IsGoalAnswer s goal None = AllHold (slice_index s) goal
IsGoalAnswer s goal (Some index) = IsFirstMissed (slice_index s) goal index

-- The fault says why the step with this number, counted from 1, fails in the state s. `Means` holds
-- for what it means there.
abbrev pub StepFailsBy : Parts → (Choice → Type 0) → List ℕ → ℕ → PlanFault → Type 0
StepFailsBy p Means s step (plan_fault.NoOperator at) = (at ≡ step) × Means Unknown
StepFailsBy p Means s step (plan_fault.NotApplicable at) = (at ≡ step) × Means Blocked
StepFailsBy p Means s step (plan_fault.Conflict at operator) = (at ≡ step)
    × Means (Found operator)
    × (Agree s (operator_at p operator).effects → ⊥)
StepFailsBy p Means s step _ = ⊥

-- The verdict after the last step: nothing fails if the goal holds and the operators' costs add up
-- to `cost`. Otherwise it is the first fact of the goal that doesn't hold, or the sum of the costs.
abbrev pub IsFinalVerdict : Parts → List ℕ → List ℕ → ℕ → Option PlanFault → Type 0
IsFinalVerdict p operators s cost None = AllHold (slice_index s) p.goal
    × (cost_of_all p operators ≡ cost)
IsFinalVerdict p operators s cost (Some (plan_fault.GoalMissed index)) =
    IsFirstMissed (slice_index s) p.goal index
IsFinalVerdict p operators s cost
    (Some (plan_fault.CostDiffers sum)) = AllHold (slice_index s) p.goal
    × (sum ≡ cost_of_all p operators)
    × (sum ≢ cost)
IsFinalVerdict p operators s cost _ = ⊥

-- the plan is valid by these operators, and has this cost
pub record IsSolution (p : Parts) (plan : PlanParts) (solution : Valid) : Type 0 where
  pub valid : IsValid p plan solution.operators.items
  pub cost : solution.cost ≡ plan.cost

-- the plan has this fault, or memory ran out
abbrev pub IsFaultOrMemory : Parts → PlanParts → PlanFault → Type 0
IsFaultOrMemory p plan fault = fault ≢ plan_fault.Memory → IsFaultOf p plan fault
