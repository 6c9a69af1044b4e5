-- What is noted of the steps of a plan as they are made once more.
use Rattle.std.specs.Prelude.{◌≡◌, ◌⊎◌, ℕ, ◌+◌, ◌*◌, ◌<◌, ◌≤◌, List, length, All, Contains, Option, Some, None, slice_index, vec_capacity}
use Rattle.sas_core.specs.declared.parts.Parts.{Parts}
use Rattle.sas_run.specs.ByNumbers.{GoesThroughFrom}
use Rattle.sas_run.specs.Running.{IsLaterIfAny}
use Rattle.sas_run.specs.Runs.{Run, IsRunFrom}
use Rattle.sas_plan_reasons.specs.Retracing.{HaveSince, IsOtherIfAny}
use Rattle.sas_plan_reasons.specs.declared.history.Historian.{Historian}
use Rattle.sas_plan_reasons.specs.declared.history.OtherOperator.{OtherOperator}
use Rattle.sas_plan_reasons.specs.declared.listing.Listing.{Listing}

-- ---- the variables that a step may have changed

-- there is room for all variables, and for as many effects and derived variables as it lists
pub record CanList (p : Parts) (listing : Listing) : Type 0 where
  pub few : 2 * listing.few ≤ length p.variables + 16
  pub room : length p.variables + 16 ≤ vec_capacity listing.vars

-- the variables on the list exist, and each whose value in s' isn't that in s is on it
pub record ListCoversChanges (s s' listed : List ℕ) : Type 0 where
  pub exist : All (λ var. var < length s) listed
  pub each : (var : ℕ) → (slice_index s' var ≡ slice_index s var) ⊎ Contains listed var

-- of the variables below `end`, those whose values differ are on the list, and no others
pub record ListsBelow (s s' : List ℕ) (end : ℕ) (listed : List ℕ) : Type 0 where
  pub few : length listed ≤ end
  pub exist : All (λ var. var < end) listed
  pub each : (var : ℕ) → var < end → (slice_index s' var ≡ slice_index s var) ⊎ Contains listed var

-- ---- what is noted

-- what is noted with the step of this operator in the state s: what was noted before; or else, of
-- the operators above it that the step may mean, too, the lowest one, if there is one
abbrev pub AddsOther : Parts → List ℕ → ℕ → ℕ → Option OtherOperator → Option OtherOperator → Type 0
AddsOther p s operator step (Some other) noted = noted ≡ Some other
AddsOther p s operator step None None = IsLaterIfAny p s operator None
AddsOther p s operator step None (Some other) = (other.step ≡ step)
    × IsLaterIfAny p s operator (Some other.operator)

-- The steps of these operators, which lead from `start` to the state that is noted, were noted: for
-- each run of them, since when each variable has its value, and which other operator a step may
-- mean.
pub record HasNoted (p : Parts) (start : List ℕ) (first now : Historian) (operators : List ℕ)
    : Type 0 where
  pub nexts : now.nexts.now ≡ first.nexts.now
  pub listing : CanList p now.listing
  pub one_each : length now.changes.since.items ≡ length p.variables
  pub through : GoesThroughFrom p start operators now.changes.values
  pub since : (run : Run) → IsRunFrom p start run → run.operators ≡ operators
      → HaveSince p run now.changes.since.items
  pub other : (run : Run) → IsRunFrom p start run → run.operators ≡ operators
      → IsOtherIfAny p run now.other
