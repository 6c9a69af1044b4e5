-- What is wrong with a line of a task file, and the format of task files.
use Rattle.std.specs.Prelude.{◌≡◌, ℕ, List, length, Option}
use Rattle.std.specs.List.{AllByRecursion}
use Rattle.sas_core.specs.declared.parts.Fact.{Fact}
use Rattle.sas_core.specs.declared.parts.Effect.{Effect}
use Rattle.sas_core.specs.declared.parts.Parts.{Parts}
use Rattle.sas_core.specs.Numbers.{IsNumber, IsSigned}
use Rattle.sas_reader.specs.declared.fault.Kind.{Kind}
use Rattle.sas_reader.specs.declared.fault.Kind.TheVariants.{Keyword, Name, Shape, Value}
use Rattle.sas_reader.specs.Format.{Format}
pub use Rattle.sas_task_file.specs.TaskTexts.{TaskLine, word, name, number, signed, fact, effect, head, fact_words, head_words, effect_words, task_line_bytes, single_line, between, counted, version_lines, metric_lines, variable_lines, group_lines, state_lines, goal_lines, operator_lines, rule_lines, task_layout, task_texts}

-- the slot of a line: a fixed word, or any line of this kind
pub data TaskSlot : Type 0 where
  word_slot : List ℕ → TaskSlot
  name_slot : TaskSlot
  number_slot : TaskSlot
  signed_slot : TaskSlot
  fact_slot : TaskSlot
  effect_slot : TaskSlot
  head_slot : TaskSlot

-- the slot to which a line belongs
abbrev pub task_slot : TaskLine → TaskSlot
task_slot (word w) = word_slot w
task_slot (name bytes) = name_slot
task_slot (number n) = number_slot
task_slot (signed n) = signed_slot
task_slot (fact f) = fact_slot
task_slot (effect e) = effect_slot
task_slot (head var old new) = head_slot

-- the numbers of a fact line are at most 2,147,483,647
abbrev pub FactNumbers : Fact → Type 0
FactNumbers f = IsNumber f.var × IsNumber f.value

-- the numbers of a head line are at most 2,147,483,647
abbrev pub HeadNumbers : ℕ → Option ℕ → ℕ → Type 0
HeadNumbers var old new = IsNumber var × IsSigned old × IsNumber new

-- the numbers of an effect line are at most 2,147,483,647
pub record EffectNumbers (e : Effect) : Type 0 where
  pub count : IsNumber (length e.conditions)
  pub conditions : AllByRecursion FactNumbers e.conditions
  pub head : HeadNumbers e.var e.old e.new

-- each number on a line is at most 2,147,483,647
abbrev pub TaskLineFits : TaskLine → Type 0
TaskLineFits (word w) = Unit {0}
TaskLineFits (name bytes) = Unit {0}
TaskLineFits (number n) = IsNumber n
TaskLineFits (signed n) = IsSigned n
TaskLineFits (fact f) = FactNumbers f
TaskLineFits (effect e) = EffectNumbers e
TaskLineFits (head var old new) = HeadNumbers var old new

-- the bytes are a line that belongs to the slot and has only numbers up to 2,147,483,647
abbrev pub HasShape : TaskSlot → List ℕ → Type 0
HasShape slot bytes = (i : TaskLine) × (task_slot i ≡ slot) × TaskLineFits i
    × (task_line_bytes i ≡ bytes)

-- a wrong line of numbers doesn't have the shape of its slot, or has it with a number that isn't
-- allowed there
pub data NumbersKind (slot : TaskSlot) (bytes : List ℕ) : Kind → Type 0 where
  no_shape : (HasShape slot bytes → ⊥) → NumbersKind slot bytes Shape
  no_value : HasShape slot bytes → NumbersKind slot bytes Value

-- the kind of fault of a wrong line: it isn't the expected word, or isn't a name where a name is
-- expected, or is a wrong line of numbers
abbrev pub TaskKind : TaskSlot → List ℕ → Kind → Type 0
TaskKind (word_slot w) bytes kind = kind ≡ Keyword
TaskKind name_slot bytes kind = kind ≡ Name
TaskKind slot bytes kind = NumbersKind slot bytes kind

-- the format of task files
abbrev pub task_format : Format Parts TaskLine TaskSlot
task_format = record { texts = task_texts; slot_of = task_slot; KindOf = TaskKind }
