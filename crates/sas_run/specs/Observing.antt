-- What an observer is told of the steps of a plan.
use Rattle.std.specs.Prelude.{◌≡◌, ℕ, ◌+◌, ◌<◌, List, [], ◌∷◌, ◌++◌, length, Option}
use Rattle.sas_core.specs.declared.parts.Parts.{Parts}
use Rattle.sas_meaning.specs.Following.{ListsDerived}
use Rattle.sas_meaning.specs.Layers.{IsLayered}
use Rattle.sas_run.specs.declared.plan_check.PlanFault.{PlanFault}
use Rattle.sas_run.specs.declared.choice.Choice.{Choice}
use Rattle.sas_run.specs.declared.choice.Choice.TheVariants.{Found}
use Rattle.sas_run.specs.ByNumbers.{GoesThroughFrom}
use Rattle.sas_run.specs.Choosers.{Makes, EndsSteps}

-- the list has the derived variables that the step changed which led to s from the state behind
-- these operators
abbrev pub ListsLast : Parts → List ℕ → List ℕ → List ℕ → List ℕ → Type 0
ListsLast p start before s listed = (last : List ℕ) → GoesThroughFrom p start before last
    → ListsDerived p last s listed

-- `Admits` says of which steps an observer can be told, each with its number and its operator.
-- `Sees` says what it was, and what it is after the steps of these operators from `start`.
module _ {O : Type 0} (Admits : O → Parts → ℕ → ℕ → Type 0)
    (Sees : Parts → List ℕ → O → O → List ℕ → Type 0) (p : Parts) (start : List ℕ) where
  -- The observer was this one at first, and was told of the steps before. They and one more led
  -- from the start to the state s, in a layered task. Now it is told of that one.
  pub record IsTold (first : O) (before : List ℕ) (now : O) (step operator : ℕ) (s : List ℕ)
      : Type 0 where
    pub layered : IsLayered p
    pub number : step ≡ length before + 1
    pub through : GoesThroughFrom p start (before ++ operator ∷ []) s
    pub admits : Admits first p step operator
    pub sees : Sees p start first now before

  -- it was told of no step, and can be told of each step that may be made
  pub record CanSee (Means : ℕ → List ℕ → Choice → Type 0) (steps : ℕ) (observer : O) : Type 0 where
    pub none : Sees p start observer observer []
    pub each : (step operator : ℕ) (s : List ℕ) → step < steps → Means step s (Found operator)
        → Admits observer p (step + 1) operator

-- So many steps were made up to the state s, or one after it fails. The observer was told of them.
pub record AreMadeAndSeen {O : Type 0} (Sees : Parts → List ℕ → O → O → List ℕ → Type 0)
    (p : Parts) (start : List ℕ) (Means : ℕ → List ℕ → Choice → Type 0) (steps : ℕ)
    (first now : O) (s : List ℕ)
    (fault : Option PlanFault) : Type 0 where
  pub operators : List ℕ
  pub makes : Makes p start Means operators s
  pub ends : EndsSteps p start Means steps operators s fault
  pub sees : Sees p start first now operators
