-- Why the operators with some numbers aren't a valid plan.
use Rattle.std.specs.Prelude.{◌≡◌, ◌≢◌, ◌⊎◌, Bool, true, false, ℕ, ◌+◌, ◌<◌, List, length, take, slice_index, Some}
use Rattle.sas_core.specs.declared.parts.Parts.{Parts}
use Rattle.sas_run.specs.declared.plan_check.PlanFault.{PlanFault}
use Rattle.sas_run.specs.declared.plan_check.PlanFault.TheVariants.{Memory}
use Rattle.sas_run.specs.ByNumbers.{GoesThroughFrom}
use Rattle.sas_run.specs.Choosers.{IsNumberChoice}
use Rattle.sas_run.specs.Running.{StepFailsBy, IsFinalVerdict}

-- the operators before one of them go through, and this one fails: it doesn't exist, it isn't
-- applicable, or its effects conflict
pub record IsStuck (p : Parts) (start operators : List ℕ) (fault : PlanFault) : Type 0 where
  pub before : ℕ
  pub exists : before < length operators
  pub s : List ℕ
  pub through : GoesThroughFrom p start (take before operators) s
  pub fails : StepFailsBy p (IsNumberChoice p s (slice_index operators before)) s (before + 1) fault

-- all go through, but a fact of the goal fails, or else their costs have another sum
pub record IsMissed (p : Parts) (start operators : List ℕ) (cost : ℕ) (fault : PlanFault)
    : Type 0 where
  pub last : List ℕ
  pub through : GoesThroughFrom p start operators last
  pub judged : IsFinalVerdict p operators last cost (Some fault)

-- the fault of operators that aren't valid by numbers from the state `start` at this cost
abbrev pub IsFaultFrom : Parts → List ℕ → List ℕ → ℕ → PlanFault → Type 0
IsFaultFrom p start operators cost fault =
    IsStuck p start operators fault ⊎ IsMissed p start operators cost fault

-- from the initial state
abbrev pub IsFaultByNumbers : Parts → List ℕ → ℕ → PlanFault → Type 0
IsFaultByNumbers p = IsFaultFrom p p.init

-- they have this fault, or memory ran out
abbrev pub IsFaultFromOrMemory : Parts → List ℕ → List ℕ → ℕ → PlanFault → Type 0
IsFaultFromOrMemory p start operators cost fault =
    fault ≢ Memory → IsFaultFrom p start operators cost fault

-- how far operators lead from the state `start`: all go through, to `last`; or one fails, and those
-- before it lead there
abbrev pub LeadsAsFar : Parts → List ℕ → List ℕ → List ℕ → Bool → Type 0
LeadsAsFar p start operators last true = GoesThroughFrom p start operators last
LeadsAsFar p start operators last false =
    (fault : PlanFault) × (stuck : IsStuck p start operators fault) × (stuck.s ≡ last)
