-- Removing groups from the family of those that may be kept jointly.
use Rattle.std.specs.Prelude.{◌≡◌, ℕ, ◌+◌, ◌<◌, ◌≤◌, ◌↔◌, Bool, if◌then◌else◌, IsTrue, List, [], ◌∷◌, ◌++◌, length, drop, All, Contains, vec_capacity}
use Rattle.sas_core.specs.declared.parts.Parts.{Parts}
use Rattle.sas_core.specs.Grounded.{operator_at, effect_at, group_at}
use Rattle.sas_groups.specs.Clashes.{sets}
use Rattle.sas_groups.specs.Families.{IsIn, IsKeptJointly, MayBeExclusive}
use Rattle.sas_mutex.specs.declared.family.Family.{Family}
use Rattle.sas_mutex.specs.Kept.{family_of}
use Rattle.sas_mutex.specs.Effects.{KeepsAt}
use Rattle.sas_mutex.specs.Basis.{IsBasis, Excludes}

-- an operator is at rest if each of its effects keeps each group of the family that contains
-- the fact that the effect sets
abbrev pub IsAtRest : Parts → List Bool → ℕ → Type 0
IsAtRest p kept operator = (effect : ℕ) → effect < length (operator_at p operator).effects
    → (place : ℕ) → IsIn p (family_of kept) place
    → Contains (group_at p place) (sets (effect_at (operator_at p operator) effect))
    → KeepsAt p kept operator effect place

-- the number of groups in the family
abbrev pub count : List Bool → ℕ
count [] = 0
count (kept ∷ rest) = (if kept then 1 else 0) + count rest

-- The lists have an entry for each group. `fallen` has room for all groups that may still be
-- removed. The removed and the remaining groups are at most all groups.
pub record FamilyHasRoom (p : Parts) (family : Family) : Type 0 where
  pub one_each : length family.kept ≡ length p.groups
  pub room : count family.kept + length family.fallen.items ≤ vec_capacity family.fallen
  pub few : count family.kept + length family.fallen.items ≤ length p.groups
  pub basis : IsBasis (length p.groups) family
  pub excluding : All (Excludes p family.kept) family.excluding

-- the family contains exactly the groups that may be exclusive
abbrev pub AreCandidates : Parts → List Bool → Type 0
AreCandidates p kept = (place : ℕ) → place < length p.groups
    → IsTrue (family_of kept place) ↔ MayBeExclusive p (group_at p place)

-- the groups that were removed after `before`
abbrev pub newly : Family → Family → List ℕ
newly before after = drop (length before.fallen.items) after.fallen.items

-- Some groups were removed from the family and appended to `fallen`. None of them is in a family
-- that is kept jointly and was contained in the family before.
pub record Falls (p : Parts) (before after : Family) : Type 0 where
  pub one_each : length after.kept ≡ length before.kept
  pub behind : after.fallen.items ≡ before.fallen.items ++ newly before after
  pub exist : All (λ place. place < length p.groups) (newly before after)
  pub gone : (place : ℕ) → Contains (newly before after) place
      → IsIn p (family_of after.kept) place → ⊥
  pub less : (place : ℕ) → IsIn p (family_of after.kept) place
      → IsIn p (family_of before.kept) place
  pub noted : (place : ℕ) → IsIn p (family_of before.kept) place
      → (IsIn p (family_of after.kept) place → ⊥)
      → Contains (newly before after) place
  pub none_lost : (other : ℕ → Bool) → IsKeptJointly p other
      → ((place : ℕ) → IsIn p other place → IsIn p (family_of before.kept) place)
      → (place : ℕ) → IsIn p other place → IsIn p (family_of after.kept) place

-- all groups of the first family are in the second one
abbrev pub IsWithin : Parts → List Bool → List Bool → Type 0
IsWithin p smaller kept =
    (place : ℕ) → IsIn p (family_of smaller) place → IsIn p (family_of kept) place

-- the operator keeps each group of the family, and of any smaller family that contains these
-- groups
abbrev pub RestsOn : Parts → List Bool → List ℕ → ℕ → Type 0
RestsOn p kept groups operator = (smaller : List Bool) → IsWithin p smaller kept
    → All (IsIn p (family_of smaller)) groups → IsAtRest p smaller operator
