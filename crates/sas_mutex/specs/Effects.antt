-- An effect of a task, and which groups it keeps.
use Rattle.std.specs.Prelude.{◌≡◌, ℕ, Bool, List, []}
use Rattle.sas_core.specs.declared.parts.Parts.{Parts}
use Rattle.sas_core.specs.Grounded.{operator_at, effect_at, group_at}
use Rattle.sas_groups.specs.Families.{IsGroupOfOr}
use Rattle.sas_groups.specs.Keeping.{EffectKeeps}
use Rattle.sas_mutex.specs.Kept.{IsKept, family_of}
use Rattle.sas_core.specs.declared.parts.Effect.{Effect}
use Rattle.sas_core.specs.declared.parts.Operator.{Operator}

-- the effect keeps the group, assuming the groups of the family; all are given by their indexes
abbrev pub KeepsAt : Parts → List Bool → ℕ → ℕ → ℕ → Type 0
KeepsAt p kept operator effect place = EffectKeeps (IsKept p kept) (operator_at p operator)
    (group_at p place) (effect_at (operator_at p operator) effect)

-- the effect keeps the group, assuming the family and the group itself
abbrev pub KeepsWithItself : Parts → List Bool → ℕ → ℕ → ℕ → Type 0
KeepsWithItself p kept operator effect place =
    EffectKeeps (IsGroupOfOr p (family_of kept) (group_at p place)) (operator_at p operator)
    (group_at p place) (effect_at (operator_at p operator) effect)

-- the effect with this index has no conditions
abbrev pub IsUnconditional : Parts → ℕ → ℕ → Type 0
IsUnconditional p operator effect = (effect_at (operator_at p operator) effect).conditions ≡ []

-- the task, and the effect by the indexes of its operator and of itself
pub record EffectPlace : Type 0 where
  pub task : Parts
  pub operator : ℕ
  pub effect : ℕ

-- the operator and its effect
abbrev pub operator_of : EffectPlace → Operator
operator_of f = operator_at f.task f.operator

abbrev pub effect_of : EffectPlace → Effect
effect_of f = effect_at (operator_at f.task f.operator) f.effect
