-- What follows if a step that fails is made anyway, and the later ones.
use Rattle.std.specs.Prelude.{◌≡◌, ◌⊎◌, ℕ, zero, suc, ◌+◌, ◌-◌, List, [], ◌∷◌, ◌++◌, ◌≤◌, length, take, vec_capacity}
use Rattle.sas_core.specs.declared.parts.Parts.{Parts}
use Rattle.sas_core.specs.Grounded.{operator_at}
use Rattle.sas_meaning.specs.FastDownward.{ForcedStep}
use Rattle.sas_meaning.specs.Steps.{Step}
use Rattle.sas_run.specs.declared.anyway.Anyway.{Anyway}
use Rattle.sas_run.specs.declared.choice.Choice.{Choice}
use Rattle.sas_run.specs.declared.choice.Choice.TheVariants.{Unknown, Blocked, Found}
use Rattle.sas_run.specs.declared.plan_check.PlanFault.{PlanFault}
use Rattle.sas_run.specs.Running.{StepFailsBy}

-- `Means` holds for what a step, by its number from 0, means in a state.
module _ (p : Parts) (Means : ℕ → List ℕ → Choice → Type 0) where
  -- the step would be made in s: the operator that it means has a step there
  abbrev pub Succeeds : ℕ → List ℕ → Type 0
  Succeeds step s = (operator : ℕ) × (next : List ℕ)
      × Means step s (Found operator)
      × Step p s (operator_at p operator) next

  -- it fails in s: it names no operator, none that it names is applicable, or two firing effects of
  -- the one that it means disagree
  abbrev pub Fails : ℕ → List ℕ → Type 0
  Fails step s = (fault : PlanFault) × StepFailsBy p (Means step s) s (step + 1) fault

  -- `Lowest` holds for the lowest operator that a step names.
  module _ (Lowest : ℕ → ℕ → Type 0) where
    -- the operator that the step stands for in s: the one that it means, else the lowest it names
    abbrev pub StandsFor : ℕ → List ℕ → ℕ → Type 0
    StandsFor step s operator =
        Means step s (Found operator) ⊎ (Means step s Blocked × Lowest step operator)

    -- the step leads from s to s', whether it fails or not; one without an operator is left out
    abbrev pub MadeAnyway : ℕ → List ℕ → List ℕ → Type 0
    MadeAnyway step s s' = ((operator : ℕ) × StandsFor step s operator
        × ForcedStep p s (operator_at p operator) s')
        ⊎ (Means step s Unknown × (s' ≡ s))

    -- So many steps, from the one with the number `first` on, lead from s to `last`, whether they
    -- fail or not. Those in `failing`, counted from 1, fail.
    abbrev pub GoOnAnyway : ℕ → List ℕ → ℕ → List ℕ → List ℕ → Type 0
    GoOnAnyway first s zero failing last = (failing ≡ []) × (last ≡ s)
    GoOnAnyway first s (suc n) failing last = (before there : List ℕ)
        × GoOnAnyway first s n before there
        × MadeAnyway (first + n) there last
        × ((Fails (first + n) there × (failing ≡ before ++ (first + n + 1) ∷ []))
        ⊎ (Succeeds (first + n) there × (failing ≡ before)))

    -- In a plan of so many steps the step with this number, counted from 1, is made in the state s,
    -- and all later ones, which lead to `last`. Of the later ones those in `failing` fail.
    pub record Follows (steps step : ℕ) (s failing last : List ℕ) : Type 0 where
      pub there : List ℕ
      pub made : MadeAnyway (step - 1) s there
      pub later : GoOnAnyway step there (steps - step) failing last

-- of these failing steps their number and the first five are noted
pub record AreNoted (failing : List ℕ) (anyway : Anyway) : Type 0 where
  pub count : anyway.failing ≡ length failing
  pub first : anyway.first.items ≡ take 5 failing
  pub room : 5 ≤ vec_capacity anyway.first

-- nothing is noted yet of what follows if this step is made in the state s
pub record IsBefore (number : ℕ) (s : List ℕ) (anyway : Anyway) : Type 0 where
  pub step : anyway.step ≡ number
  pub state : anyway.state ≡ s
  pub noted : AreNoted [] anyway
