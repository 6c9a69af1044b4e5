-- The outline of a task: the parts that a summary shows.
use Rattle.std.specs.Prelude.{length}
use Rattle.sas_core.specs.declared.parts.Parts.{Parts}
use Rattle.sas_flat.specs.declared.outline.Outline.{Outline}

-- the metric, the variables, the state section and the goal, and the numbers of groups, operators
-- and rules
abbrev pub outline_of : Parts → Outline
outline_of p = record {
  metric = p.metric;
  variables = p.variables;
  groups = length p.groups;
  init = p.init;
  goal = p.goal;
  operators = length p.operators;
  rules = length p.rules;
}
