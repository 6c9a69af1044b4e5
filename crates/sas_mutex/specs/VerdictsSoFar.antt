-- How the verdicts on all groups of a task are determined.
use Rattle.std.specs.Prelude.{Bool, ◌≡◌, ℕ, ◌+◌, ◌<◌, List, length, Contains, IsFalse}
use Rattle.sas_core.specs.declared.parts.Parts.{Parts}
use Rattle.sas_core.specs.Grounded.{operator_at, effect_at, group_at}
use Rattle.sas_groups.specs.declared.verdict.Verdict.{Verdict}
use Rattle.sas_groups.specs.declared.verdict.Verdict.TheVariants.{Exclusive, Derived, Initial, Broken}
use Rattle.sas_groups.specs.Clashes.{sets, Keeps}
use Rattle.sas_groups.specs.Families.{IsIn, IsGreatest, IsGroupOfOr, MayBeExclusive}
use Rattle.sas_groups.specs.Verdicts.{IsJointVerdict, verdict_at}
use Rattle.sas_groups.specs.Keeping.{IsFirstVerdict}
use Rattle.sas_mutex.specs.Kept.{family_of}
use Rattle.sas_mutex.specs.declared.family.Family.{Family}
use Rattle.sas_mutex.specs.declared.joint.GroupVerdicts.{GroupVerdicts}
use Rattle.sas_mutex.specs.Effects.{KeepsWithItself, EffectPlace}
use Rattle.sas_mutex.specs.Failures.{AreFailures}

-- the verdict on each group before operators are looked at
pub record AreFirstVerdicts (p : Parts) (verdicts : List Verdict) : Type 0 where
  pub one_each : length verdicts ≡ length p.groups
  pub are : (place : ℕ) → place < length p.groups
      → IsFirstVerdict p (group_at p place) (verdict_at verdicts place)

-- the group isn't in the family, and no operator that breaks it was found yet (which `Exclusive`
-- represents)
pub record IsUndecided (kept : List Bool) (verdicts : List Verdict) (place : ℕ) : Type 0 where
  pub fell : IsFalse (family_of kept place)
  pub nothing : verdict_at verdicts place ≡ Exclusive

-- all operators before this one keep the group, assuming the family and the group itself, and
-- so do the effects of this one before `effect`
pub record KeptSoFar (p : Parts) (kept : List Bool) (operator effect place : ℕ) : Type 0 where
  pub operators : (lower : ℕ) → lower < operator
      → Keeps (IsGroupOfOr p (family_of kept) (group_at p place)) (operator_at p lower)
      (group_at p place)
  pub effects : (lower : ℕ) → lower < effect
      → Contains (group_at p place) (sets (effect_at (operator_at p operator) lower))
      → KeepsWithItself p kept operator lower place

-- the verdict on the group, as far as the operators and effects so far determine it
abbrev pub IsVerdictSoFar : Parts → List Bool → ℕ → ℕ → ℕ → Verdict → Type 0
IsVerdictSoFar p kept operator effect place Derived = IsJointVerdict p place Derived
IsVerdictSoFar p kept operator effect place Initial = IsJointVerdict p place Initial
IsVerdictSoFar p kept operator effect place (Broken breaking) =
    IsJointVerdict p place (Broken breaking)
IsVerdictSoFar p kept operator effect place Exclusive = MayBeExclusive p (group_at p place)
    × ((IsIn p (family_of kept) place → ⊥) → KeptSoFar p kept operator effect place)

-- such a verdict for each group
pub record AreVerdictsSoFar (p : Parts) (kept : List Bool) (operator effect : ℕ)
    (verdicts : List Verdict) : Type 0 where
  pub one_each : length verdicts ≡ length p.groups
  pub are : (place : ℕ) → place < length p.groups
      → IsVerdictSoFar p kept operator effect place (verdict_at verdicts place)

-- the same by the greatest family, and the failures that are noted
pub record AreFoundSoFar (p : Parts) (operator effect : ℕ) (family : Family) (found : GroupVerdicts)
    : Type 0 where
  pub greatest : IsGreatest p (family_of family.kept)
  pub so_far : AreVerdictsSoFar p family.kept operator effect found.verdicts
  pub failures : AreFailures p found.verdicts found.failures

-- the verdict on the group considers this effect, too
abbrev pub ConsidersAt : EffectPlace → List Bool → List Verdict → ℕ → Type 0
ConsidersAt f kept verdicts place =
    IsVerdictSoFar f.task kept f.operator (f.effect + 1) place (verdict_at verdicts place)
