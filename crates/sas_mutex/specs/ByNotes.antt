-- What the recorded facts imply for one effect.
use Rattle.std.specs.Prelude.{◌≡◌, ◌≢◌, ◌⊎◌, ℕ, ◌+◌, ◌<◌, Bool, Option, None, Some, List, [], ◌∷◌, length, slice_index_or, Contains}
use Rattle.sas_core.specs.declared.parts.Fact.{Fact}
use Rattle.sas_core.specs.declared.grounded.Change.{Change}
use Rattle.sas_core.specs.declared.parts.Effect.{Effect}
use Rattle.sas_core.specs.declared.parts.Operator.{Operator}
use Rattle.sas_core.specs.declared.parts.Parts.{Parts}
use Rattle.sas_core.specs.Changes.{fact_of}
use Rattle.sas_core.specs.Grounded.{operator_at, effect_at, group_at}
use Rattle.sas_groups.specs.Clashes.{Clash, Removes}
use Rattle.sas_groups.specs.Lists.{known}
use Rattle.sas_mutex.specs.declared.recorded.Recorded.{Recorded}
use Rattle.sas_mutex.specs.declared.notes.Notes.{Notes}
use Rattle.sas_groups.specs.Keeping.{NotBoth, IsGone, HasNoPartner, AreGone}
use Rattle.sas_mutex.specs.Effects.{KeepsAt, KeepsWithItself, EffectPlace, operator_of, effect_of}
use Rattle.sas_mutex.specs.ByVariable.{variable_of}
use Rattle.sas_mutex.specs.Notes.{value_note, AreNotesOf}
use Rattle.sas_mutex.specs.Recorded.{IsNotedFrom}
use Rattle.sas_groups.specs.Families.{IsIn}
use Rattle.sas_mutex.specs.Kept.{IsKept, family_of}

-- a group of the family contains both facts
pub record ShareOne (p : Parts) (kept : List Bool) (f g : Fact) : Type 0 where
  pub place : ℕ
  pub in_family : IsIn p (family_of kept) place
  pub first : Contains (group_at p place) f
  pub second : Contains (group_at p place) g

-- the facts are recorded and don't clash
pub record AreKnown (p : Parts) (kept : List Bool) (facts : List Fact) (notes : Notes)
    : Type 0 where
  pub noted : AreNotesOf p facts notes
  pub apart : Clash (IsKept p kept) facts → ⊥

-- the condition is this fact, or is recorded
abbrev pub IsMet : Notes → Fact → Fact → Type 0
IsMet notes fact condition =
    (condition ≡ fact) ⊎ (value_note notes.values condition.var ≡ Some condition.value)

-- the change sets the variable of the fact to another value
abbrev pub SetsOtherValue : Fact → Change → Type 0
SetsOtherValue fact change = (change.var ≡ fact.var) × (change.new ≢ fact.value)

-- some effect of the operator removes the fact
abbrev pub SomeRemoves : Operator → Notes → Fact → Type 0
SomeRemoves o notes fact = (effect : ℕ)
    × (effect < length o.effects)
    × Removes (IsMet notes fact) (effect_at o effect) fact

-- the known facts of the effect: the preconditions of its operator and its own conditions
abbrev pub known_at : Parts → ℕ → ℕ → List Fact
known_at p operator effect =
    known (operator_at p operator) (effect_at (operator_at p operator) effect).conditions []

-- exactly the known facts of the effect are recorded, and they don't clash
pub record IsNotedFor (p : Parts) (kept : List Bool) (operator effect : ℕ) (recorded : Recorded)
    : Type 0 where
  pub are : AreKnown p kept (known_at p operator effect) recorded.known
  pub from : IsNotedFrom p (known_at p operator effect) recorded

-- the first of the facts, if any, is on the variable of the effect, or a value is recorded for its
-- variable
abbrev pub IsDecidedByFirst : Effect → List Fact → Notes → Type 0
IsDecidedByFirst e facts notes = (first : Fact) (d : Fact) → 0 < length facts
    → slice_index_or facts 0 d ≡ first
    → (e.var ≡ first.var) ⊎ (value_note notes.values first.var ≢ None)

-- ---- the same for an effect and a group of a task, assuming the groups of the family

-- exactly the known facts of the effect are recorded, and they don't clash
pub record IsNotedAt (f : EffectPlace) (kept : List Bool) (recorded : Recorded) : Type 0 where
  pub one_each : length kept ≡ length f.task.groups
  pub noted : IsNotedFor f.task kept f.operator f.effect recorded

-- the known facts of the effect clash
abbrev pub NeverFires : EffectPlace → List Bool → Type 0
NeverFires f kept = Clash (IsKept f.task kept) (known_at f.task f.operator f.effect)

-- the effect keeps the group with this index, assuming the family, or the family and the group
-- itself
abbrev pub EffectKeepsGroup : EffectPlace → List Bool → ℕ → Type 0
EffectKeepsGroup f kept place = KeepsAt f.task kept f.operator f.effect place

abbrev pub EffectKeepsGroupWithItself : EffectPlace → List Bool → ℕ → Type 0
EffectKeepsGroupWithItself f kept place = KeepsWithItself f.task kept f.operator f.effect place

-- the known facts of both effects clash
abbrev pub BothClashAt : EffectPlace → List Bool → ℕ → Type 0
BothClashAt f kept other = Clash (IsKept f.task kept) (known (operator_of f)
    (effect_of f).conditions (effect_at (operator_of f) other).conditions)

-- the fact clashes with the known facts of the effect
abbrev pub ClashesAt : EffectPlace → List Bool → Fact → Type 0
ClashesAt f kept fact =
    Clash (IsKept f.task kept) (known (operator_of f) (effect_of f).conditions (fact ∷ []))

-- a group of the family contains both this fact and a known fact other than the one set apart
abbrev pub SharesBesideAt : EffectPlace → List Bool → Fact → Option Fact → Type 0
SharesBesideAt f kept fact apart = (known : Fact)
    × Contains (known_at f.task f.operator f.effect) known
    × (apart ≢ Some known)
    × ShareOne f.task kept known fact

-- the change sets a fact of the group on another variable than the effect
pub record SetsBeside (f : EffectPlace) (change : Change) (place : ℕ) : Type 0 where
  pub beside : (effect_of f).var ≢ change.var
  pub has : Contains (group_at f.task place) (fact_of change)

abbrev pub NotBothAt : EffectPlace → List Bool → ℕ → ℕ → Type 0
NotBothAt f kept other place = NotBoth (IsKept f.task kept) (operator_of f)
    (group_at f.task place) (effect_of f) (effect_at (operator_of f) other)

abbrev pub HasNoPartnerAt : EffectPlace → List Bool → ℕ → Type 0
HasNoPartnerAt f kept place =
    HasNoPartner (IsKept f.task kept) (operator_of f) (group_at f.task place) (effect_of f)

-- the effect with this index, if it exists, can't set another fact of the group in the same step
abbrev pub IsApartAt : EffectPlace → List Bool → ℕ → ℕ → Type 0
IsApartAt f kept place other = other < length (operator_of f).effects → NotBothAt f kept other place

-- the same for all effects on the variable
abbrev pub IsSingleOn : EffectPlace → List Bool → ℕ → ℕ → Type 0
IsSingleOn f kept place var = (other : ℕ) → variable_of f.task f.operator other ≡ var
    → IsApartAt f kept place other

-- the fact directly before this index, if any, is on another variable than the fact at it
abbrev pub BeginsRun : List Fact → ℕ → Type 0
BeginsRun facts place = (before : ℕ) → before + 1 ≡ place → (d : Fact)
    → (slice_index_or facts before d).var ≢ (slice_index_or facts place d).var

-- an earlier fact is on the same variable as the fact at this index
pub record IsOnVariableBefore (facts : List Fact) (place : ℕ) : Type 0 where
  pub before : ℕ
  pub early : before < place
  pub same : (d : Fact) → (slice_index_or facts before d).var ≡ (slice_index_or facts place d).var

abbrev pub IsGoneAt : EffectPlace → List Bool → Fact → Type 0
IsGoneAt f kept = IsGone (IsKept f.task kept) (operator_of f) (effect_of f)

abbrev pub AreGoneAt : EffectPlace → List Bool → ℕ → Type 0
AreGoneAt f kept place =
    AreGone (IsKept f.task kept) (operator_of f) (group_at f.task place) (effect_of f)

-- the fact isn't a known fact of the effect
abbrev pub IsUnknownAt : EffectPlace → Fact → Type 0
IsUnknownAt f fact = Contains (known_at f.task f.operator f.effect) fact → ⊥
