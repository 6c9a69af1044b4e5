-- Consequences of the definitions: invariance, a unique greatest family, and a unique joint verdict
-- on each group.
use Rattle.std.specs.Prelude.{◌≡◌, ◌||◌, ℕ, ◌<◌, Bool, List, length}
use Rattle.sas_core.specs.declared.parts.Fact.{Fact}
use Rattle.sas_core.specs.declared.parts.Parts.{Parts}
use Rattle.sas_core.specs.Grounded.{group_at}
use Rattle.sas_groups.specs.declared.verdict.Verdict.{Verdict}
use Rattle.sas_groups.specs.declared.verdict.Verdict.TheVariants.{Exclusive}
use Rattle.sas_groups.specs.Groups.{IsInvariant}
use Rattle.sas_groups.specs.Families.{MayBeExclusive, IsIn, IsGroupOfOr, AllKeep, IsKeptJointly, IsGreatest}
use Rattle.sas_groups.specs.Verdicts.{IsVerdictAlone, IsJointVerdict}

-- invariance: each group of a family that is kept jointly is an invariant
abbrev pub JointlyKeptIsInvariant : Type 0
JointlyKeptIsInvariant = (p : Parts) (family : ℕ → Bool) (place : ℕ) → IsKeptJointly p family
    → IsIn p family place → IsInvariant p (group_at p place)

-- a group that is exclusive, alone or jointly, is an invariant
abbrev pub ExclusiveAloneIsInvariant : Type 0
ExclusiveAloneIsInvariant = (p : Parts) (group : List Fact) → IsVerdictAlone p group Exclusive
    → IsInvariant p group

abbrev pub ExclusiveJointlyIsInvariant : Type 0
ExclusiveJointlyIsInvariant = (p : Parts) (place : ℕ) → IsJointVerdict p place Exclusive
    → IsInvariant p (group_at p place)

-- the union of two families that are kept jointly is kept jointly
abbrev pub FamiliesUnite : Type 0
FamiliesUnite = (p : Parts) (a b : ℕ → Bool) → IsKeptJointly p a → IsKeptJointly p b
    → IsKeptJointly p (λ place. a place || b place)

-- it can't be that no greatest family exists; this is weaker than existence, since no family is
-- constructed
abbrev pub GreatestExists : Type 0
GreatestExists = (p : Parts) → ((family : ℕ → Bool) → IsGreatest p family → ⊥) → ⊥

-- the greatest family is unique: two of them have the same groups
abbrev pub GreatestIsOne : Type 0
GreatestIsOne = (p : Parts) (a b : ℕ → Bool) → IsGreatest p a → IsGreatest p b
    → (place : ℕ) → IsIn p a place → IsIn p b place

-- it contains every group that is exclusive alone
abbrev pub GreatestHasAlone : Type 0
GreatestHasAlone = (p : Parts) (family : ℕ → Bool) (place : ℕ) → place < length p.groups
    → IsGreatest p family
    → IsVerdictAlone p (group_at p place) Exclusive → IsIn p family place

-- a group outside the greatest family that may be exclusive isn't kept by all operators,
-- assuming that family and the group itself
abbrev pub OutsideIsBroken : Type 0
OutsideIsBroken = (p : Parts) (family : ℕ → Bool) (place : ℕ) → place < length p.groups
    → IsGreatest p family
    → (IsIn p family place → ⊥) → MayBeExclusive p (group_at p place)
    → AllKeep p (IsGroupOfOr p family (group_at p place)) (group_at p place) → ⊥

-- each group has at most one joint verdict
abbrev pub JointVerdictIsOne : Type 0
JointVerdictIsOne = (p : Parts) (place : ℕ) (a b : Verdict) → place < length p.groups
    → IsJointVerdict p place a → IsJointVerdict p place b → a ≡ b

-- it can't be that a group has no joint verdict
abbrev pub SomeJointVerdict : Type 0
SomeJointVerdict = (p : Parts) (place : ℕ) → place < length p.groups
    → ((verdict : Verdict) → IsJointVerdict p place verdict → ⊥) → ⊥
