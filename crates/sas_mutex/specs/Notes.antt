-- Facts recorded by variable and by group.
use Rattle.std.specs.Prelude.{◌≡◌, ◌≢◌, ℕ, ◌<◌, List, length, slice_index_or, Contains, Option, None, Some, IfSome, IfNone}
use Rattle.sas_core.specs.declared.parts.Fact.{Fact}
use Rattle.sas_core.specs.declared.parts.Parts.{Parts}
use Rattle.sas_mutex.specs.declared.notes.Notes.{Notes}
use Rattle.sas_mutex.specs.declared.notes.GroupNote.{GroupNote}
use Rattle.sas_mutex.specs.declared.notes.GroupNote.TheVariants.{Nothing, One, Several}
use Rattle.sas_mutex.specs.ByFact.{HasFact}

-- the value recorded for a variable, and the record of a group
abbrev pub value_note : List (Option ℕ) → ℕ → Option ℕ
value_note values var = slice_index_or values var None

abbrev pub group_note : List GroupNote → ℕ → GroupNote
group_note groups place = slice_index_or groups place Nothing

-- there is an entry for each variable and each group
pub record IsWide (p : Parts) (notes : Notes) : Type 0 where
  pub variables : length notes.values ≡ length p.variables
  pub groups : length notes.groups ≡ length p.groups

-- nothing is recorded
pub record AreBlank (p : Parts) (notes : Notes) : Type 0 where
  pub wide : IsWide p notes
  pub values : (var : ℕ) → var < length p.variables → value_note notes.values var ≡ None
  pub groups : (place : ℕ) → place < length p.groups → group_note notes.groups place ≡ Nothing
  pub none_apart : notes.apart ≡ None

-- entries are only at variables of these facts, and at groups of those that aren't set apart
pub record AreFrom (p : Parts) (facts : List Fact) (notes : Notes) : Type 0 where
  pub wide : IsWide p notes
  pub values : (var : ℕ) → var < length p.variables → value_note notes.values var ≢ None
      → (fact : Fact) × Contains facts fact × (fact.var ≡ var)
  pub groups : (place : ℕ) → place < length p.groups → group_note notes.groups place ≢ Nothing
      → (fact : Fact) × Contains facts fact × HasFact p place fact × (notes.apart ≢ Some fact)

-- the value recorded for a variable is that of a fact on it; if none is recorded, no fact is on the
-- variable
pub record IsValueNote (facts : List Fact) (var : ℕ) (note : Option ℕ) : Type 0 where
  pub some : IfSome note (λ value. Contains facts (record { var = var; value = value }))
  pub none : IfNone note ((fact : Fact) → Contains facts fact → fact.var ≢ var)

-- the record of some facts: there is none, only this one, or at least two different ones
abbrev pub IsNoteOf : (Fact → Type 0) → GroupNote → Type 0
IsNoteOf Are Nothing = (fact : Fact) → Are fact → ⊥
IsNoteOf Are (One fact) = Are fact × ((other : Fact) → Are other → other ≡ fact)
IsNoteOf Are Several = (f g : Fact) × Are f × Are g × (f ≢ g)

-- this is one of the facts, and the group with this index contains it
pub record IsOfGroup (p : Parts) (facts : List Fact) (place : ℕ) (fact : Fact) : Type 0 where
  pub among : Contains facts fact
  pub has : HasFact p place fact

-- the same, and the fact isn't set apart
pub record IsOfGroupBeside (p : Parts) (facts : List Fact) (apart : Option Fact) (place : ℕ)
    (fact : Fact) : Type 0 where
  pub of : IsOfGroup p facts place fact
  pub beside : apart ≢ Some fact

-- the record of those facts that the group with this index contains
abbrev pub IsGroupNote : Parts → List Fact → ℕ → GroupNote → Type 0
IsGroupNote p facts place = IsNoteOf (IsOfGroup p facts place)

-- these facts are recorded by variable, and all of them except the one set apart by group
pub record AreNotesOf (p : Parts) (facts : List Fact) (notes : Notes) : Type 0 where
  pub values : (var : ℕ) → var < length p.variables
      → IsValueNote facts var (value_note notes.values var)
  pub groups : (place : ℕ) → place < length p.groups
      → IsNoteOf (IsOfGroupBeside p facts notes.apart place) (group_note notes.groups place)
  pub one_apart : (fact : Fact) → notes.apart ≡ Some fact → Contains facts fact
