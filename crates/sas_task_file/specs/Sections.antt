-- Whole sections at the beginning of some bytes: a variable, a mutex group, an operator, a rule.
use Rattle.std.specs.Prelude.{◌<◌, ℕ, List, length, map, IsTrue}
use Rattle.std.specs.List.{AllByRecursion, list_all}
use Rattle.sas_core.specs.declared.parts.Fact.{Fact}
use Rattle.sas_core.specs.declared.parts.Variable.{Variable}
use Rattle.sas_core.specs.declared.parts.Operator.{Operator}
use Rattle.sas_core.specs.declared.parts.Effect.{Effect}
use Rattle.sas_core.specs.Names.{IsName}
use Rattle.sas_core.specs.Plain.{IsPlain}
use Rattle.sas_reader.specs.declared.reader.Front.{Front}
use Rattle.sas_reader.specs.Machine.{IsFront}
use Rattle.sas_task_file.specs.TaskFormat.{TaskLine, task_line_bytes, TaskLineFits, variable_lines, group_lines, operator_lines, rule_lines}
use Rattle.sas_task_file.specs.TaskRanges.{fact_in_ranges, effect_in_ranges}

-- the bytes of each line
abbrev pub spelled : List TaskLine → List (List ℕ)
spelled items = map task_line_bytes items

-- the bytes begin with these lines, whose numbers a file can spell; the front has their number and
-- length
pub record LinesAhead (items : List TaskLine) (bytes : List ℕ) (front : Front) : Type 0 where
  pub fits : AllByRecursion TaskLineFits items
  pub plain : AllByRecursion IsPlain (spelled items)
  pub stands : IsFront (spelled items) bytes front

-- the variable has a name and at least one value, and each value has a name
pub record HasNames (v : Variable) : Type 0 where
  pub name : IsName v.name
  pub values : AllByRecursion IsName v.values
  pub some : 0 < length v.values

-- the operator has a name, and each of its facts exists
pub record OperatorInRanges (ranges : List ℕ) (o : Operator) : Type 0 where
  pub name : IsName o.name
  pub prevail : IsTrue (list_all (fact_in_ranges ranges) o.prevail)
  pub effects : IsTrue (list_all (effect_in_ranges ranges) o.effects)

-- the bytes begin with the variable
abbrev pub VariableAhead : List ℕ → Variable → Front → Type 0
VariableAhead bytes v front = HasNames v × LinesAhead (variable_lines v) bytes front

-- the bytes begin with the mutex group, and its facts exist
abbrev pub GroupAhead : List ℕ → List ℕ → List Fact → Front → Type 0
GroupAhead ranges bytes facts front =
    IsTrue (list_all (fact_in_ranges ranges) facts) × LinesAhead (group_lines facts) bytes front

-- the bytes begin with the operator, and its facts exist
abbrev pub OperatorAhead : List ℕ → List ℕ → Operator → Front → Type 0
OperatorAhead ranges bytes o front = OperatorInRanges ranges o
    × LinesAhead (operator_lines o) bytes front

-- the bytes begin with the rule, and its facts exist
abbrev pub RuleAhead : List ℕ → List ℕ → Effect → Front → Type 0
RuleAhead ranges bytes r front = IsTrue (effect_in_ranges ranges r)
    × LinesAhead (rule_lines r) bytes front
