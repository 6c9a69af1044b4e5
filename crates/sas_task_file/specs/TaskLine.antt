-- What the code parses from a line of a task file.
use Rattle.std.specs.Prelude.{◌≡◌, ◌≢◌, Bool, true, List, ℕ, Result, Ok, Err}
use Rattle.sas_reader.specs.declared.fault.Kind.{Kind}
use Rattle.sas_reader.specs.declared.fault.Kind.TheVariants as kinds
use Rattle.sas_reader.specs.Faults.{IsOfBytes}
use Rattle.sas_reader.specs.System.{IsAllowed, IsRejected}
use Rattle.sas_core.specs.Names.{is_name}
use Rattle.sas_task_file.specs.declared.marks.Due.{Due}
use Rattle.sas_task_file.specs.declared.marks.Due.TheVariants as due
use Rattle.sas_task_file.specs.Marks.{fixed_word_bytes, slot_of_due}
use Rattle.sas_task_file.specs.TaskFormat.{TaskLine, word, name, number, signed, fact, effect, head, TaskSlot, task_line_bytes, task_format, TaskLineFits}
use Rattle.sas_task_file.specs.TaskValues.{is_from, name_in, number_in, fact_in, effect_in, head_in}
use Rattle.sas_task_file.specs.TaskRanges.{fact_in_ranges, effect_in_ranges, head_in_ranges}
use Rattle.sas_task_file.specs.declared.line_values.LineValues.{LineValues}

-- a fault of a line itself: not an early end, a failed read or out of memory
abbrev pub IsOfLine : Kind → Type 0
IsOfLine kind = IsOfBytes kind × (kind ≢ kinds.Memory)

-- The result is the content of the line, which is allowed at the slot under the test. Or no such
-- line is allowed there, and the result is the kind of its fault.
abbrev pub ParsesLine : {A : Type 0} → TaskSlot → (TaskLine → Bool) → (A → TaskLine) → List ℕ
    → Result A Kind → Type 0
ParsesLine slot test said line (Ok a) =
    IsAllowed task_format TaskLineFits slot test (said a) × (task_line_bytes (said a) ≡ line)
ParsesLine slot test said line (Err kind) = IsOfLine kind
    × IsRejected task_format TaskLineFits slot test line kind

-- like `ParsesLine`, but may also be out of memory
abbrev pub ParsesLineOrMemory : {A : Type 0} → TaskSlot
    → (TaskLine → Bool) → (A → TaskLine) → List ℕ
    → Result A Kind → Type 0
ParsesLineOrMemory slot test said line (Ok a) =
    IsAllowed task_format TaskLineFits slot test (said a) × (task_line_bytes (said a) ≡ line)
ParsesLineOrMemory slot test said line (Err kind) =
    IsOfBytes kind × (kind ≢ kinds.Memory → IsRejected task_format TaskLineFits slot test line kind)

-- ---- by what is expected

-- whether a line of the expected slot is allowed
abbrev pub test_of_due : List ℕ → Due → TaskLine → Bool
test_of_due ranges (due.Word w) i = true
test_of_due ranges (due.Name its) i = is_name (name_in i)
test_of_due ranges (due.Number its least most) i = is_from least most (number_in i)
test_of_due ranges due.Layer i = true
test_of_due ranges due.Fact i = fact_in_ranges ranges (fact_in i)
test_of_due ranges due.Head i = head_in_ranges ranges (head_in i)
test_of_due ranges due.Effect i = effect_in_ranges ranges (effect_in i)
test_of_due ranges due.Nothing i = is_name (name_in i)

-- the content of an expected line, which is in `said` or is the line itself
abbrev pub line_of_due : Due → LineValues → List ℕ → TaskLine
line_of_due (due.Word w) said line = word (fixed_word_bytes w)
line_of_due (due.Name its) said line = name line
line_of_due (due.Number its least most) said line = number said.number
line_of_due due.Layer said line = signed said.layer
line_of_due due.Fact said line = fact said.fact
line_of_due due.Head said line = head said.head.var said.head.old said.head.new
line_of_due due.Effect said line = effect said.effect
line_of_due due.Nothing said line = name line

-- The content of the line is in `said`, and is allowed as what is expected. Or it isn't, and this
-- is the kind of its fault. Or it is an effect, and memory ran out.
abbrev pub ParsesDue : List ℕ → Due → List ℕ → LineValues → Result (Unit {0}) Kind → Type 0
ParsesDue ranges d line said (Ok u) = IsAllowed task_format TaskLineFits
    (slot_of_due d) (test_of_due ranges d) (line_of_due d said line)
    × (task_line_bytes (line_of_due d said line) ≡ line)
ParsesDue ranges d line said (Err kind) = IsOfBytes kind
    × (kind ≡ kinds.Memory → d ≡ due.Effect)
    × (kind ≢ kinds.Memory
    → IsRejected task_format TaskLineFits (slot_of_due d) (test_of_due ranges d) line kind)
