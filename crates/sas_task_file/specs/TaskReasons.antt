-- Why a line of a task file is refused: its location, what is expected, and which number is wrong.
use Rattle.std.specs.Prelude.{◌≡◌, ℕ, ◌+◌, ◌-◌, ◌⊎◌, Bool, true, false, if◌then◌else◌, nat_lt, List, [], ◌∷◌, ◌++◌, length, map, slice_index, Option, Some, None, IsSome}
use Rattle.std.specs.Option.{option_map_or}
use Rattle.std.specs.List.{flat_map}
use Rattle.sas_core.specs.declared.parts.Fact.{Fact}
use Rattle.sas_reader.specs.declared.fault.Fault.{Fault}
use Rattle.sas_reader.specs.declared.fault.Kind.{Kind}
use Rattle.sas_reader.specs.declared.fault.Kind.TheVariants as kinds
use Rattle.sas_reader.specs.Format.{IsBegun}
use Rattle.sas_reader.specs.Limit.{most_bytes}
use Rattle.sas_reader.specs.About.{IsAbout}
use Rattle.sas_task_file.specs.declared.marks.Due.{Due}
use Rattle.sas_task_file.specs.declared.marks.Due.TheVariants as due
use Rattle.sas_task_file.specs.declared.marks.Location.TheVariants as at
use Rattle.sas_task_file.specs.declared.marks.Mark.{Mark}
use Rattle.sas_task_file.specs.declared.marks.WrongWord.{WrongWord}
use Rattle.sas_task_file.specs.TaskFormat.{TaskLine, fact, effect, head, HasShape, task_format, TaskSlot, task_slot}
use Rattle.sas_task_file.specs.Marks.{IsDue, slot_of_due}
use Rattle.sas_task_file.specs.TaskWords.{Spells}

-- A number on a line (`None` for `-1`). Allowed are numbers less than the bound, and none if
-- `may_be_none`.
pub record Bounded : Type 0 where
  pub value : Option ℕ
  pub may_be_none : Bool
  pub bound : ℕ

abbrev pub below : ℕ → ℕ → Bounded
below bound n = record { value = Some n; may_be_none = false; bound = bound }

abbrev pub below_or_none : ℕ → Option ℕ → Bounded
below_or_none bound n = record { value = n; may_be_none = true; bound = bound }

-- the first of these numbers that isn't allowed; they are counted from n on
abbrev pub first_wrong : ℕ → List Bounded → Option WrongWord
first_wrong n [] = None
first_wrong n (b ∷ bounds) = if option_map_or (λ i. nat_lt i b.bound) b.value b.may_be_none
    then first_wrong (n + 1) bounds
    else Some (record { word = n; may_be_none = b.may_be_none; most = b.bound - 1 })

-- the numbers of a line with facts, by the number of values of each variable
module _ (ranges : List ℕ) where
  abbrev pub fact_bounds : Fact → List Bounded
  fact_bounds f = below (length ranges) f.var ∷ below (slice_index ranges f.var) f.value ∷ []

  abbrev pub change_bounds : ℕ → Option ℕ → ℕ → List Bounded
  change_bounds var old new = below (length ranges) var
      ∷ below_or_none (slice_index ranges var) old ∷ below (slice_index ranges var) new ∷ []

  -- an effect begins with the number of its conditions, which is always allowed here
  abbrev pub line_bounds : TaskLine → List Bounded
  line_bounds (fact f) = fact_bounds f
  line_bounds (effect e) = below (length e.conditions + 1) (length e.conditions)
      ∷ (flat_map fact_bounds e.conditions ++ change_bounds e.var e.old e.new)
  line_bounds (head var old new) = change_bounds var old new
  line_bounds _ = []

-- After these lines, this mark is expected, and the line has the shape of it. The word is its first
-- number that isn't allowed, if any, by the variables of a task that begins with these lines.
pub record IsFirstWrong (begun : List (List ℕ)) (mark : Mark) (line : List ℕ)
    (word : Option WrongWord) : Type 0 where
  pub due : IsDue begun mark
  pub shape : HasShape (slot_of_due mark.due) line
  pub first : word ≡ first_wrong 1
      (line_bounds (map (λ v. length v.values) due.begins.0.variables) shape.0)

-- Why a text is refused after these lines, with a fault of this kind: the mark is what is expected
-- there, and the word is the first number of the text that isn't allowed, if any.
abbrev pub IsTaskReason : Kind → List (List ℕ) → List ℕ → Mark → Option WrongWord → Type 0
-- after the last line nothing is expected
IsTaskReason kinds.Trailing begun found mark word =
    (mark ≡ record { at = at.End; due = due.Nothing }) × (word ≡ None)
IsTaskReason kinds.Value begun found mark word = IsFirstWrong begun mark found word
IsTaskReason _ begun found mark word = IsDue begun mark × (word ≡ None)

-- facts, heads and effects contain variables and their values
abbrev pub SpeaksOfFacts : Due → Type 0
SpeaksOfFacts d = (d ≡ due.Fact) ⊎ (d ≡ due.Head) ⊎ (d ≡ due.Effect)

-- ---- laws

-- after the same lines, a line has one first wrong number, or none
abbrev pub OneWrongWord : Type 0
OneWrongWord = (begun : List (List ℕ)) (m n : Mark) (line : List ℕ) (w x : Option WrongWord)
    → IsFirstWrong begun m line w → IsFirstWrong begun n line x → w ≡ x

-- A line has a wrong number if a fact, a head or an effect is expected, the line has the shape of
-- this, and no task begins with the lines so far and this line.
abbrev pub SomeWrongWord : Type 0
SomeWrongWord = (begun : List (List ℕ)) (line : List ℕ) (mark : Mark) → IsDue begun mark
    → SpeaksOfFacts mark.due → HasShape (slot_of_due mark.due) line
    → (IsBegun task_format (begun ++ line ∷ []) → ⊥)
    → (w : WrongWord) × IsFirstWrong begun mark line (Some w)

-- there is at most one reason
abbrev pub OneTaskReason : Type 0
OneTaskReason = (kind : Kind) (begun : List (List ℕ)) (found : List ℕ) (m n : Mark)
    (w x : Option WrongWord) → IsTaskReason kind begun found m w → IsTaskReason kind begun found n x
    → (m ≡ n) × (w ≡ x)

-- each fault of some bytes has a reason
abbrev pub SomeTaskReason : Type 0
SomeTaskReason = (bytes : List ℕ) (f : Fault) (begun : List (List ℕ)) (found : List ℕ)
    → IsAbout task_format most_bytes bytes f begun found
    → (mark : Mark) × (word : Option WrongWord) × IsTaskReason f.kind begun found mark word

-- The reason has a wrong number if a fact, a head or an effect is expected and the line is refused
-- for a value.
abbrev pub WrongWordIsNamed : Type 0
WrongWordIsNamed = (bytes : List ℕ) (f : Fault) (begun : List (List ℕ)) (found : List ℕ)
    (mark : Mark) (word : Option WrongWord) → IsAbout task_format most_bytes bytes f begun found
    → IsTaskReason f.kind begun found mark word
    → f.kind ≡ kinds.Value → SpeaksOfFacts mark.due → IsSome word

module _ (ranges : List ℕ) where
  -- this number is the first of the line that isn't allowed; a line of this slot is expected
  pub record HasWrong (slot : TaskSlot) (line : List ℕ) (w : WrongWord) : Type 0 where
    pub item : TaskLine
    pub belongs : task_slot item ≡ slot
    pub spells : Spells item line
    pub first : first_wrong 1 (line_bounds ranges item) ≡ Some w

  -- this is the first wrong number, or `None` if no number is wrong
  abbrev pub FirstWrong : TaskSlot → List ℕ → Option WrongWord → Type 0
  FirstWrong slot line None = (w : WrongWord) → HasWrong slot line w → ⊥
  FirstWrong slot line (Some w) = HasWrong slot line w
