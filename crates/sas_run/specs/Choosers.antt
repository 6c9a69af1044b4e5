-- What steps mean, by names or by numbers, and how they are made.
use Rattle.std.specs.Prelude.{◌≡◌, ◌≢◌, ◌⊎◌, ⊤, ℕ, ◌+◌, ◌<◌, List, length, take, slice_index, Option, Some, None, Result, Ok, Err}
use Rattle.sas_core.specs.declared.parts.Parts.{Parts}
use Rattle.sas_core.specs.Grounded.{operator_at}
use Rattle.sas_core.specs.PlanParts.{PlanParts}
use Rattle.sas_meaning.specs.Steps.{Step}
use Rattle.sas_run.specs.declared.plan_check.PlanFault.{PlanFault}
use Rattle.sas_run.specs.declared.plan_check.PlanFault.TheVariants.{Memory}
use Rattle.sas_run.specs.declared.plan_check.Valid.{Valid}
use Rattle.sas_run.specs.declared.choice.Choice.{Choice}
use Rattle.sas_run.specs.declared.choice.Choice.TheVariants.{Unknown, Blocked, Found}
use Rattle.sas_names.specs.Chains.{AreStepOperators}
use Rattle.sas_run.specs.declared.long_chains.LongChains.{LongChains}
use Rattle.sas_run.specs.ByNumbers.{GoesThroughFrom}
use Rattle.sas_run.specs.LongChains.{AreLongChains}
use Rattle.sas_run.specs.Plans.{IsApplicable}
use Rattle.sas_run.specs.Running.{IsFinalVerdict, StepFailsBy}

-- an operator that is chosen exists and is applicable
abbrev pub IsPossible : Parts → List ℕ → Choice → Type 0
IsPossible p s (Found operator) =
    (operator < length p.operators) × IsApplicable s (operator_at p operator)
IsPossible p s _ = ⊤

-- the lists and the long chains have the operators of the names of the plan's steps
pub record HaveOperators (p : Parts) (plan : PlanParts) (firsts : List ℕ) (nexts : List (Option ℕ))
    (long : LongChains) : Type 0 where
  pub names : AreStepOperators p plan.steps firsts nexts
  pub chains : AreLongChains p long

-- which operator a number means in a state: none has the number, it isn't applicable, or that one
abbrev pub IsNumberChoice : Parts → List ℕ → ℕ → Choice → Type 0
IsNumberChoice p s number Unknown = number < length p.operators → ⊥
IsNumberChoice p s number Blocked = (number < length p.operators)
    × (IsApplicable s (operator_at p number) → ⊥)
IsNumberChoice p s number (Found operator) = (operator ≡ number)
    × (number < length p.operators)
    × IsApplicable s (operator_at p number)

-- The step with this number, counted from 1, was made from s to s' by an operator that it means. Or
-- it fails, and the state is unchanged. `Means` holds for what it means in s.
abbrev pub MakesStepBy : Parts → (Choice → Type 0) → List ℕ → ℕ → List ℕ → Result ℕ PlanFault
    → Type 0
MakesStepBy p Means s step s' (Ok operator) = Means (Found operator)
    × (operator < length p.operators)
    × Step p s (operator_at p operator) s'
MakesStepBy p Means s step s' (Err fault) = StepFailsBy p Means s step fault × (s' ≡ s)

-- `Means` holds for what a step, by its number from 0, means in a state. The first step is made in
-- the settled state with the basic values of `start`.
module _ (p : Parts) (start : List ℕ) (Means : ℕ → List ℕ → Choice → Type 0) where
  -- the first steps lead to the state s by these operators, and each means its operator
  pub record Makes (operators s : List ℕ) : Type 0 where
    pub through : GoesThroughFrom p start operators s
    pub each : (step : ℕ) (before : List ℕ) → step < length operators
        → GoesThroughFrom p start (take step operators) before
        → Means step before (Found (slice_index operators step))

  -- the step after those of these operators fails in the state s
  abbrev pub FailsNext : ℕ → List ℕ → List ℕ → PlanFault → Type 0
  FailsNext steps operators s fault = (length operators < steps)
      × StepFailsBy p (Means (length operators) s) s (length operators + 1) fault

  -- so many steps were made, or the next one fails
  abbrev pub EndsSteps : ℕ → List ℕ → List ℕ → Option PlanFault → Type 0
  EndsSteps steps operators s None = length operators ≡ steps
  EndsSteps steps operators s (Some fault) = FailsNext steps operators s fault

  -- a plan with so many steps and this cost has this fault, or is valid, after these operators
  pub record EndsPlan (steps cost : ℕ) (operators : List ℕ) (fault : Option PlanFault) : Type 0 where
    pub s : List ℕ
    pub makes : Makes operators s
    pub ends : (((stuck : PlanFault) × (fault ≡ Some stuck) × FailsNext steps operators s stuck))
        ⊎ ((length operators ≡ steps) × IsFinalVerdict p operators s cost fault)

  -- it is valid by these operators
  pub record IsSolutionBy (steps cost : ℕ) (valid : Valid) : Type 0 where
    pub ends : EndsPlan steps cost valid.operators.items None
    pub same : valid.cost ≡ cost

  -- it has this fault, or memory ran out
  abbrev pub IsFaultByOrMemory : ℕ → ℕ → PlanFault → Type 0
  IsFaultByOrMemory steps cost fault = fault ≢ Memory
      → (operators : List ℕ) × EndsPlan steps cost operators (Some fault)
