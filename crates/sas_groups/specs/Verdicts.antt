-- The verdicts on mutex groups.
use Rattle.std.specs.Prelude.{◌≡◌, ℕ, ◌<◌, Bool, List, length, slice_index_or}
use Rattle.sas_core.specs.declared.parts.Fact.{Fact}
use Rattle.sas_core.specs.declared.parts.Parts.{Parts}
use Rattle.sas_core.specs.Grounded.{operator_at, group_at}
use Rattle.sas_groups.specs.declared.verdict.Verdict.{Verdict}
use Rattle.sas_groups.specs.declared.verdict.Verdict.TheVariants.{Exclusive, Derived, Initial, Broken}
use Rattle.sas_groups.specs.Clashes.{Keeps}
use Rattle.sas_groups.specs.Groups.{IsExclusiveIn, IsInvariant}
use Rattle.sas_groups.specs.Families.{IsIn, IsOnBasic, AllKeep, IsGreatest, IsGroupOfOr}

-- the first operator that doesn't keep the group
pub record IsFirstBreaking (p : Parts) (Counts : List Fact → Type 0) (group : List Fact)
    (operator : ℕ) : Type 0 where
  pub exists : operator < length p.operators
  pub breaks : Keeps Counts (operator_at p operator) group → ⊥
  pub first : (lower : ℕ) → lower < operator → Keeps Counts (operator_at p lower) group

-- the verdict on a group alone: only the group itself is assumed
abbrev pub IsVerdictAlone : Parts → List Fact → Verdict → Type 0
IsVerdictAlone p group Derived = IsOnBasic p group → ⊥
IsVerdictAlone p group Initial = IsOnBasic p group × (IsExclusiveIn p.init group → ⊥)
IsVerdictAlone p group (Broken operator) = IsOnBasic p group
    × IsExclusiveIn p.init group
    × IsFirstBreaking p (λ g. g ≡ group) group operator
IsVerdictAlone p group Exclusive = IsOnBasic p group
    × IsExclusiveIn p.init group
    × AllKeep p (λ g. g ≡ group) group

-- The joint verdict on the group with this index. `Derived` and `Initial` are as for the group
-- alone. The groups of the greatest family that is kept jointly are `Exclusive`. Any other
-- group is broken by the first operator that doesn't keep it, assuming that family and the
-- group itself.
abbrev pub IsJointVerdict : Parts → ℕ → Verdict → Type 0
IsJointVerdict p place Derived = IsOnBasic p (group_at p place) → ⊥
IsJointVerdict p place Initial = IsOnBasic p (group_at p place)
    × (IsExclusiveIn p.init (group_at p place) → ⊥)
IsJointVerdict p place (Broken operator) = (family : ℕ → Bool)
    × IsGreatest p family
    × (IsIn p family place → ⊥)
    × IsOnBasic p (group_at p place)
    × IsExclusiveIn p.init (group_at p place)
    × IsFirstBreaking p (IsGroupOfOr p family (group_at p place)) (group_at p place) operator
IsJointVerdict p place Exclusive = (family : ℕ → Bool) × IsGreatest p family × IsIn p family place

-- the verdict on the group with this index; past the last group, `Exclusive`
abbrev pub verdict_at : List Verdict → ℕ → Verdict
verdict_at verdicts place = slice_index_or verdicts place Exclusive

-- one joint verdict for each group of the task, in order
pub record AreJointVerdicts (p : Parts) (verdicts : List Verdict) : Type 0 where
  pub one_each : length verdicts ≡ length p.groups
  pub are : (place : ℕ) → place < length p.groups
      → IsJointVerdict p place (verdict_at verdicts place)

-- the groups with the verdict `Exclusive` are invariants of the task
abbrev pub AreInvariants : Parts → List Verdict → Type 0
AreInvariants p verdicts = (place : ℕ) → place < length p.groups
    → verdict_at verdicts place ≡ Exclusive → IsInvariant p (group_at p place)
