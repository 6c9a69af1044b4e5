-- How recording one fact changes the notes.
use Rattle.std.specs.Prelude.{◌≡◌, ◌≢◌, ◌⊎◌, ℕ, ◌<◌, Bool, IsTrue, Option, None, Some, List, length, slice_set, All, Contains}
use Rattle.sas_core.specs.declared.parts.Fact.{Fact}
use Rattle.sas_mutex.specs.declared.notes.Notes.{Notes}
use Rattle.sas_mutex.specs.declared.notes.GroupNote.{GroupNote}
use Rattle.sas_mutex.specs.declared.notes.GroupNote.TheVariants.{Nothing, One, Several}
use Rattle.sas_mutex.specs.Kept.{family_of}
use Rattle.sas_mutex.specs.declared.index.Index.{Index}
use Rattle.sas_mutex.specs.Index.{groups_of}
use Rattle.sas_mutex.specs.Notes.{value_note, group_note}

-- all indexes are below n
abbrev pub AreBelow : ℕ → List ℕ → Type 0
AreBelow n places = All (λ (place : ℕ). place < n) places

-- a group of the family contains both facts
pub record ShareKept (index : Index) (kept : List Bool) (f g : Fact) : Type 0 where
  pub place : ℕ
  pub first : Contains (groups_of index f) place
  pub second : Contains (groups_of index g) place
  pub kept_there : IsTrue (family_of kept place)

-- a group of the family contains both this fact and the one set apart
abbrev pub SharesApart : Index → List Bool → Fact → Option Fact → Type 0
SharesApart index kept fact apart =
    (other : Fact) × (apart ≡ Some other) × ShareKept index kept fact other

-- the record of a group after this fact of the group is recorded, too
abbrev pub IsNotedToo : GroupNote → Fact → GroupNote → Type 0
IsNotedToo Nothing fact after = after ≡ One fact
IsNotedToo (One other) fact after =
    ((other ≡ fact) × (after ≡ One fact)) ⊎ ((other ≢ fact) × (after ≡ Several))
IsNotedToo Several fact after = after ≡ Several

-- another fact is recorded for one of these groups that is in the family
pub record IsExcluded (groups : List ℕ) (kept : List Bool) (fact : Fact) (noted : List GroupNote)
    : Type 0 where
  pub place : ℕ
  pub among : Contains groups place
  pub kept_there : IsTrue (family_of kept place)
  pub other : IsNotedToo (group_note noted place) fact Several

-- the fact is now recorded for this group, which is one of these groups; if it is in the family, no
-- other fact is recorded for it
pub record NotesForGroup (groups : List ℕ) (kept : List Bool)
    (fact : Fact) (before after : List GroupNote)
    (place : ℕ) : Type 0 where
  pub among : Contains groups place
  pub now : IsNotedToo (group_note before place) fact (group_note after place)
  pub alone : IsTrue (family_of kept place) → group_note after place ≢ Several

-- the fact was recorded for some of these groups; all other records are unchanged
pub record TakenBySome (groups : List ℕ) (kept : List Bool) (fact : Fact)
    (before after : List GroupNote) : Type 0 where
  pub as_many : length after ≡ length before
  pub each : (place : ℕ) → (group_note after place ≡ group_note before place)
      ⊎ NotesForGroup groups kept fact before after place

-- the fact was recorded for all of these groups
abbrev pub TakenByAll : List ℕ → List Bool → Fact → List GroupNote → List GroupNote → Type 0
TakenByAll groups kept fact before after =
    (place : ℕ) → Contains groups place → NotesForGroup groups kept fact before after place

-- another value is recorded for the variable of the fact
abbrev pub HasOtherValue : List (Option ℕ) → Fact → Type 0
HasOtherValue values fact = (value : ℕ)
    × (value_note values fact.var ≡ Some value)
    × (value ≢ fact.value)

-- the fact contradicts a recorded fact
abbrev pub IsContradicted : Index → List Bool → Fact → Notes → Type 0
IsContradicted index kept fact notes = HasOtherValue notes.values fact
    ⊎ (IsExcluded (groups_of index fact) kept fact notes.groups
    ⊎ (value_note notes.values fact.var ≡ None) × SharesApart index kept fact notes.apart)

-- only the entries of the fact's variable and of its groups may change
pub record ChangesAt (groups : List ℕ) (fact : Fact) (before after : Notes) : Type 0 where
  pub as_many_values : length after.values ≡ length before.values
  pub as_many_groups : length after.groups ≡ length before.groups
  pub values : (var : ℕ)
      → (value_note after.values var ≡ value_note before.values var) ⊎ (var ≡ fact.var)
  pub by_group : (place : ℕ)
      → (group_note after.groups place ≡ group_note before.groups place)
      ⊎ (Contains groups place × (value_note before.values fact.var ≡ None))
  pub same_apart : after.apart ≡ before.apart

-- the fact was already recorded
pub record IsThere (fact : Fact) (before after : Notes) : Type 0 where
  pub noted : value_note before.values fact.var ≡ Some fact.value
  pub same_values : after.values ≡ before.values
  pub same_groups : after.groups ≡ before.groups
  pub same_apart : after.apart ≡ before.apart

-- no fact was recorded for the variable, and this one is recorded now
pub record NotesFirstFact (index : Index) (kept : List Bool) (fact : Fact) (before after : Notes)
    : Type 0 where
  pub none : value_note before.values fact.var ≡ None
  pub values : after.values ≡ slice_set before.values fact.var (Some fact.value)
  pub some : TakenBySome (groups_of index fact) kept fact before.groups after.groups
  pub all : TakenByAll (groups_of index fact) kept fact before.groups after.groups
  pub same_apart : after.apart ≡ before.apart
  pub alone : SharesApart index kept fact before.apart → ⊥

-- the value of the fact, if given, is recorded for its variable
abbrev pub IsSet : Option Fact → List (Option ℕ) → List (Option ℕ) → Type 0
IsSet None before after = after ≡ before
IsSet (Some fact) before after = after ≡ slice_set before fact.var (Some fact.value)

-- the fact, if given, is recorded for its variable and set apart
pub record IsSetApart (apart : Option Fact) (before after : Notes) : Type 0 where
  pub now : after.apart ≡ apart
  pub values : IsSet apart before.values after.values
  pub same_groups : after.groups ≡ before.groups

-- the record of the group with this index, including the fact set apart
pub record IsCompleted (index : Index) (notes : Notes) (place : ℕ) (noted : GroupNote)
    : Type 0 where
  pub with_apart : (fact : Fact) → notes.apart ≡ Some fact
      → Contains (groups_of index fact) place
      → IsNotedToo (group_note notes.groups place) fact noted
  pub without : ((fact : Fact) → notes.apart ≡ Some fact
      → Contains (groups_of index fact) place → ⊥)
      → noted ≡ group_note notes.groups place

-- the records of these groups are removed; those of other groups are unchanged or removed
pub record ForgetsGroups (groups : List ℕ) (before after : List GroupNote) : Type 0 where
  pub as_many : length after ≡ length before
  pub none : All (λ (place : ℕ). group_note after place ≡ Nothing) groups
  pub each : (place : ℕ)
      → (group_note after place ≡ group_note before place) ⊎ (group_note after place ≡ Nothing)

-- the records of the fact are removed; if it is set apart, its groups have none
pub record Forgets (groups : List ℕ) (fact : Fact) (before after : Notes) : Type 0 where
  pub values : after.values ≡ slice_set before.values fact.var None
  pub by_group : (before.apart ≡ Some fact × (after.groups ≡ before.groups))
      ⊎ ForgetsGroups groups before.groups after.groups
  pub same_apart : after.apart ≡ before.apart

-- a fact is recorded for one of these groups that is in the family
pub record HasNotedGroup (groups : List ℕ) (kept : List Bool) (noted : List GroupNote)
    : Type 0 where
  pub place : ℕ
  pub among : Contains groups place
  pub kept_there : IsTrue (family_of kept place)
  pub some : group_note noted place ≢ Nothing
