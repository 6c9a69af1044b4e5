-- The line of a task file at which an operator or a rule begins.
use Rattle.std.specs.Prelude.{ℕ, ◌+◌, List, length, take}
use Rattle.std.specs.List.{sum_by}
use Rattle.sas_core.specs.declared.parts.Effect.{Effect}
use Rattle.sas_core.specs.declared.parts.Fact.{Fact}
use Rattle.sas_core.specs.declared.parts.Operator.{Operator}
use Rattle.sas_core.specs.declared.parts.Parts.{Parts}
use Rattle.sas_core.specs.declared.parts.Variable.{Variable}

-- how many lines a variable has: its values, and five more
abbrev pub variable_height : Variable → ℕ
variable_height v = 5 + length v.values

-- a mutex group: its facts, and three more
abbrev pub group_height : List Fact → ℕ
group_height facts = 3 + length facts

-- an operator: its prevail conditions, its effects, and six more
abbrev pub operator_height : Operator → ℕ
operator_height o = 6 + length o.prevail + length o.effects

-- a rule: its conditions, and four more
abbrev pub rule_height : Effect → ℕ
rule_height r = 4 + length r.conditions

-- how many lines stand before the first operator: the version, the metric, the variables, the
-- groups, the state section and the goal, and the numbers of variables, groups and operators
abbrev pub lines_before_operators : Parts → ℕ
lines_before_operators p =
    3 + 3
    + (1 + sum_by variable_height p.variables)
    + (1 + sum_by group_height p.groups)
    + (2 + length p.init)
    + (3 + length p.goal)
    + 1

-- the line at which the operator with this index begins, counted from 1
abbrev pub operator_line : Parts → ℕ → ℕ
operator_line p operator =
    lines_before_operators p + sum_by operator_height (take operator p.operators) + 1

-- the line at which the rule with this index begins: before it stand all operators, the number of
-- rules, and the rules before it
abbrev pub rule_line : Parts → ℕ → ℕ
rule_line p rule =
    lines_before_operators p + sum_by operator_height p.operators + 1
    + sum_by rule_height (take rule p.rules) + 1
