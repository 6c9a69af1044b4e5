-- Which operators must be looked at again when a group is removed: those that watch it.
use Rattle.std.specs.Prelude.{◌≡◌, ◌≢◌, ◌⊎◌, ℕ, ◌<◌, ◌≤◌, ◌^◌, Bool, true, Option, Some, None, List, [], ◌++◌, length, slice_index_or, All, Contains}
use Rattle.sas_core.specs.declared.parts.Parts.{Parts}
use Rattle.sas_groups.specs.Families.{IsIn}
use Rattle.sas_mutex.specs.declared.family.Family.{Family}
use Rattle.sas_mutex.specs.declared.watches.Watch.{Watch}
use Rattle.sas_mutex.specs.declared.watches.Watches.{Watches}
use Rattle.sas_mutex.specs.Kept.{family_of}
use Rattle.sas_mutex.specs.declared.greatest.Search.{Search}
use Rattle.sas_mutex.specs.Falling.{IsWithin, IsAtRest}
use Rattle.sas_mutex.specs.Looking.{IsIdle}

-- the watch with this index
abbrev pub watch_at : List Watch → ℕ → Watch
watch_at made place = slice_index_or made place (record { group = 0; operator = 0; before = None })

-- the index of the operator's first valid watch; none if the operator is loose
abbrev pub since_of : List (Option ℕ) → ℕ → Option ℕ
since_of since operator = slice_index_or since operator None

-- ---- chains

-- the last watch of the group among the watches before `below`, if any
abbrev pub IsLastBelow : List Watch → ℕ → ℕ → Option ℕ → Type 0
IsLastBelow made below group None =
    (place : ℕ) → place < below → (watch_at made place).group ≢ group
IsLastBelow made below group (Some last) = (last < below)
    × ((watch_at made last).group ≡ group)
    × ((place : ℕ) → last < place → place < below → (watch_at made place).group ≢ group)

-- the watches of each group form a linked list: the group refers to its last watch, and each watch
-- to the previous one
pub record AreChained (made : List Watch) (last : List (Option ℕ)) : Type 0 where
  pub of_groups : (group : ℕ) → group < length last
      → IsLastBelow made (length made) group (slice_index_or last group None)
  pub of_watches : (place : ℕ) → place < length made
      → IsLastBelow made place (watch_at made place).group (watch_at made place).before

-- ---- the purpose of watches

-- a watch of the operator at or after index `start`
pub record IsWatchOf (made : List Watch) (operator start place : ℕ) : Type 0 where
  pub exists : place < length made
  pub from : start ≤ place
  pub its : (watch_at made place).operator ≡ operator

-- the operator has a watch of the group at or after index `start`
abbrev pub HasWatchFrom : List Watch → ℕ → ℕ → ℕ → Type 0
HasWatchFrom made operator start group =
    (place : ℕ) × IsWatchOf made operator start place × ((watch_at made place).group ≡ group)

-- the operator keeps each group of any smaller family that contains the groups that it watches
-- at or after index `start`
abbrev pub RestsBy : Parts → List Bool → List Watch → ℕ → ℕ → Type 0
RestsBy p kept made operator start = (smaller : List Bool) → IsWithin p smaller kept
    → ((place : ℕ) → IsWatchOf made operator start place
    → IsIn p (family_of smaller) (watch_at made place).group)
    → IsAtRest p smaller operator

-- the watch is no longer valid: its operator was looked at again, or is loose
abbrev pub IsOver : Watches → ℕ → Type 0
IsOver w place = (start : ℕ) → since_of w.since (watch_at w.made place).operator ≡ Some start
    → start ≤ place → ⊥

-- no watch of the group is valid any more
abbrev pub IsUnwatched : Watches → ℕ → Type 0
IsUnwatched w group = (place : ℕ) → place < length w.made → (watch_at w.made place).group ≡ group
    → IsOver w place

-- there are no watches, and all operators are loose
pub record AreUnwatched (groups operators : ℕ) (w : Watches) : Type 0 where
  pub made : w.made ≡ []
  pub each_group : length w.last ≡ groups
  pub each_operator : length w.since ≡ operators
  pub no_last : (group : ℕ) → slice_index_or w.last group None ≡ None
  pub loose : (operator : ℕ) → since_of w.since operator ≡ None

-- the removed groups exist and aren't in the family
pub record AreFallen (p : Parts) (family : Family) : Type 0 where
  pub exist : All (λ (group : ℕ). group < length p.groups) family.fallen.items
  pub out : (group : ℕ) → Contains family.fallen.items group
      → family_of family.kept group ≡ true → ⊥

-- each operator that isn't loose depends only on the groups that it watches; a group that is
-- watched is in the family, or was removed
pub record AreWatched (p : Parts) (family : Family) (w : Watches) : Type 0 where
  pub each_group : length w.last ≡ length p.groups
  pub each_operator : length w.since ≡ length p.operators
  pub chained : AreChained w.made w.last
  pub few : length w.made < 2 ^ 32
  pub exist : All (λ (watch : Watch). watch.operator < length p.operators) w.made
  pub fell : AreFallen p family
  pub groups : (place : ℕ) → place < length w.made
      → IsIn p (family_of family.kept) (watch_at w.made place).group
      ⊎ Contains family.fallen.items (watch_at w.made place).group
  pub rest : (operator start : ℕ) → since_of w.since operator ≡ Some start
      → RestsBy p family.kept w.made operator start

-- the same between two looks
pub record IsReady (p : Parts) (search : Search) : Type 0 where
  pub watched : AreWatched p search.keeping.family search.watches
  pub idle : IsIdle p search.keeping

-- ---- steps

-- these watches, followed by some of the operator, each of a group of the family
pub record AreMore (operator : ℕ) (kept : List Bool) (before after : List Watch) : Type 0 where
  pub more : List Watch
  pub behind : after ≡ before ++ more
  pub its : All (λ (watch : Watch). watch.operator ≡ operator) more
  pub in_family : All (λ (watch : Watch). family_of kept watch.group ≡ true) more

-- such watches were added
pub record WatchesMore (operator : ℕ) (kept : List Bool) (before after : Watches) : Type 0 where
  pub made : AreMore operator kept before.made after.made
  pub chained : AreChained after.made after.last
  pub one_each : length after.last ≡ length before.last
  pub few : length after.made < 2 ^ 32
  pub since : after.since ≡ before.since

-- the operator was looked at: its valid watches, if it isn't loose, are new ones
pub record IsWatchedAnew (operator : ℕ) (kept : List Bool) (before after : Watches) : Type 0 where
  pub made : AreMore operator kept before.made after.made
  pub now : (start : ℕ) → since_of after.since operator ≡ Some start → length before.made ≤ start
  pub others : (other : ℕ) → other ≢ operator
      → since_of after.since other ≡ since_of before.since other

-- no watch of the first `count` removed groups is valid any more
abbrev pub FallenAreUnwatched : List ℕ → ℕ → Watches → Type 0
FallenAreUnwatched fallen count w =
    (place : ℕ) → place < count → IsUnwatched w (slice_index_or fallen place 0)

-- a group outside the family that had no valid watch still has none
abbrev pub StayUnwatched : List Bool → Watches → Watches → Type 0
StayUnwatched kept before after = (group : ℕ) → (family_of kept group ≡ true → ⊥)
    → IsUnwatched before group → IsUnwatched after group

-- the loose operators among the first `count` are at rest, if no group was removed meanwhile
abbrev pub AreLooseAtRest : Parts → List Bool → List ℕ → Watches → ℕ → Type 0
AreLooseAtRest p kept fell w count = fell ≡ [] → (operator : ℕ) → operator < count
    → since_of w.since operator ≡ None → IsAtRest p kept operator
