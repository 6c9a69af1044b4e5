-- How the first failure of an effect is found, among the effects and facts that were looked at.
use Rattle.std.specs.Prelude.{◌≡◌, ℕ, ◌<◌, ◌≤◌, Bool, List, length, Some, slice_get, ⊤}
use Rattle.sas_core.specs.declared.parts.Fact.{Fact}
use Rattle.sas_core.specs.declared.parts.Operator.{Operator}
use Rattle.sas_core.specs.Grounded.{group_at}
use Rattle.sas_mutex.specs.ByVariable.{variable_of}
use Rattle.sas_groups.specs.Families.{IsGroupOfOr}
use Rattle.sas_mutex.specs.Kept.{family_of}
use Rattle.sas_mutex.specs.declared.failures.Failure.{Failure}
use Rattle.sas_mutex.specs.declared.failures.Failure.TheVariants.{SetsTwo, MayStay}
use Rattle.sas_mutex.specs.Effects.{EffectPlace, operator_of}
use Rattle.sas_mutex.specs.ByNotes.{NotBothAt, IsGoneAt}
use Rattle.sas_mutex.specs.Failures.{IsFailure, IsEarlier}

-- The lowest effect, among those that were looked at, that may set a fact of the group on another
-- variable in the same step; the number of all effects if there is none.
pub record IsLowestPartner (f : EffectPlace) (kept : List Bool)
    (place : ℕ) (IsLookedAt : ℕ → Type 0)
    (lowest : ℕ) : Type 0 where
  pub within : lowest ≤ length (operator_of f).effects
  pub may : lowest < length (operator_of f).effects → NotBothAt f kept lowest place → ⊥
  pub below : (other : ℕ) → other < lowest → IsLookedAt other → NotBothAt f kept other place

-- all effects
abbrev pub IsAny : ℕ → Type 0
IsAny effect = ⊤

-- the effects of the operator that set the variable
abbrev pub SetsVariable : EffectPlace → ℕ → ℕ → Type 0
SetsVariable f var effect = variable_of f.task f.operator effect ≡ var

-- the index of the first fact of the group that may remain; the number of its facts if there is
-- none
pub record IsFirstStaying (f : EffectPlace) (kept : List Bool) (group : List Fact) (first : ℕ)
    : Type 0 where
  pub within : first ≤ length group
  pub stays : (fact : Fact) → slice_get group first ≡ Some fact → IsGoneAt f kept fact → ⊥
  pub below : (lower : ℕ) (fact : Fact) → lower < first → slice_get group lower ≡ Some fact
      → IsGoneAt f kept fact

-- the effect of a failure
abbrev pub effect_of_failure : Failure → ℕ
effect_of_failure (SetsTwo effect other) = effect
effect_of_failure (MayStay effect place) = effect

-- the first failure of this effect
pub record IsFirstOfEffect (Counts : List Fact → Type 0) (o : Operator) (group : List Fact)
    (effect : ℕ) (failure : Failure) : Type 0 where
  pub of : effect_of_failure failure ≡ effect
  pub fails : IsFailure Counts o group failure
  pub first : (other : Failure) → effect_of_failure other ≡ effect → IsEarlier other failure
      → IsFailure Counts o group other → ⊥

-- the same for an effect and a group of a task, assuming the family and the group itself
abbrev pub IsFirstOfEffectAt : EffectPlace → List Bool → ℕ → Failure → Type 0
IsFirstOfEffectAt f kept place =
    IsFirstOfEffect (IsGroupOfOr f.task (family_of kept) (group_at f.task place)) (operator_of f)
    (group_at f.task place) f.effect
