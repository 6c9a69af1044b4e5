-- The labels of plans: the words that name their files.
use Rattle.std.specs.Prelude.{ℕ, ◌+◌, Bool, true, false, if◌then◌else◌, List, count_by, codes, bytes_eq, Option, Some, String}
use Rattle.std.specs.String.{string_bytes}
use Rattle.sas_tool.specs.declared.arguments.Source.{Source}
use Rattle.sas_tool.specs.declared.arguments.Source.TheVariants.{Input}

-- whether a label names standard input: whether it is `-`
abbrev pub names_input : {Z : Type 0} → String Z → Bool
names_input label = bytes_eq (string_bytes label) (codes "-")

-- whether a source is standard input
abbrev pub is_input : Option Source → Bool
is_input (Some Input) = true
is_input _ = false

-- how often standard input is named: by the task, if `by_task` says so, and by each such label
abbrev pub times_named : {Z : Type 0} → Bool → List (String Z) → ℕ
times_named by_task labels = (if by_task then 1 else 0) + count_by names_input labels
