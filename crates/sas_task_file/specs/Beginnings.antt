-- Where the lines of operators and rules begin in the layout of a task.
use Rattle.std.specs.Prelude.{◌≡◌, ℕ, ◌+◌, ◌<◌, List, ◌++◌, length}
use Rattle.sas_core.specs.Grounded.{operator_at, rule_at}
use Rattle.sas_core.specs.LineNumbers.{operator_line, rule_line}
use Rattle.sas_core.specs.declared.parts.Parts.{Parts}
use Rattle.sas_task_file.specs.TaskTexts.{TaskLine, task_layout, operator_lines, rule_lines}

-- these lines stand among the lines of a file, and begin at this line, counted from 1
pub record BeginAt (file lines : List TaskLine) (line : ℕ) : Type 0 where
  pub before : List TaskLine
  pub behind : List TaskLine
  pub whole : file ≡ before ++ lines ++ behind
  pub place : length before + 1 ≡ line

-- each operator begins at its line, and so does each rule
abbrev pub OperatorsBegin : Type 0
OperatorsBegin = (p : Parts) (operator : ℕ) → operator < length p.operators
    → BeginAt (task_layout p) (operator_lines (operator_at p operator)) (operator_line p operator)

abbrev pub RulesBegin : Type 0
RulesBegin = (p : Parts) (rule : ℕ) → rule < length p.rules
    → BeginAt (task_layout p) (rule_lines (rule_at p rule)) (rule_line p rule)
