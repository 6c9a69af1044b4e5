-- The basis: the groups that are assumed besides a group itself. What an effect keeps under
-- this assumption it keeps whichever other groups are removed.
use Rattle.std.specs.Prelude.{◌≡◌, ◌≢◌, ◌⊎◌, ℕ, ◌<◌, Bool, Some, IsTrue, IsFalse, List, length, Contains, All}
use Rattle.sas_core.specs.declared.parts.Parts.{Parts}
use Rattle.sas_core.specs.declared.parts.Fact.{Fact}
use Rattle.sas_core.specs.Grounded.{operator_at, effect_at, group_at}
use Rattle.sas_groups.specs.Clashes.{Contradict, sets}
use Rattle.sas_mutex.specs.ByFact.{HasFactBeside}
use Rattle.sas_groups.specs.Families.{IsIn}
use Rattle.sas_mutex.specs.declared.family.Family.{Family}
use Rattle.sas_mutex.specs.declared.family.Excluding.{Excluding}
use Rattle.sas_mutex.specs.Kept.{IsKept, family_of}

-- no group of the family contains the fact that the effect sets and another one
abbrev pub SetsNone : Parts → List Bool → ℕ → ℕ → Type 0
SetsNone p kept operator effect = (place : ℕ) → IsIn p (family_of kept) place
    → HasFactBeside p place (sets (effect_at (operator_at p operator) effect)) → ⊥

-- assuming the family, the fact contradicts each fact of the group, but perhaps those on the
-- variable, if there is one
abbrev pub Excludes : Parts → List Bool → Excluding → Type 0
Excludes p kept excluding = (f : Fact) → Contains (group_at p excluding.group) f
    → excluding.var ≢ Some f.var → Contradict (IsKept p kept) excluding.fact f

-- each one after was there before, or is this one
abbrev pub AreNotedWith : Excluding → List Excluding → List Excluding → Type 0
AreNotedWith found before after =
    (excluding : Excluding) → Contains after excluding → Contains before excluding ⊎ (found ≡ excluding)

-- the family without groups, as a list with an entry for each group
pub record IsOfNone (groups : ℕ) (none : List Bool) : Type 0 where
  pub one_each : length none ≡ groups
  pub out : (place : ℕ) → IsFalse (family_of none place)

-- all groups of the first list are in the second one
abbrev pub IsPartOf : List Bool → List Bool → Type 0
IsPartOf fewer more =
    (place : ℕ) → IsTrue (family_of fewer place) → IsTrue (family_of more place)

-- the list without these groups, and without new ones
pub record IsWithout (groups : List ℕ) (before after : List Bool) : Type 0 where
  pub as_many : length after ≡ length before
  pub out : (group : ℕ) → Contains groups group → IsFalse (family_of after group)
  pub less : IsPartOf after before

-- the basis has an entry for each group, and its groups are the supports
pub record IsBasis (groups : ℕ) (family : Family) : Type 0 where
  pub one_each : length family.basis ≡ groups
  pub only : (place : ℕ) → IsTrue (family_of family.basis place) → Contains family.supports place
  pub low : All (λ (support : ℕ). support < groups) family.supports

-- groups were added to the basis, and nothing else was changed
pub record HasGrown (before after : Family) : Type 0 where
  pub kept : after.kept ≡ before.kept
  pub fallen : after.fallen ≡ before.fallen
  pub basis : (groups : ℕ) → IsBasis groups before → IsBasis groups after
  pub grows : IsPartOf before.basis after.basis
