-- The contents of a flat task.
use Rattle.sas_core.specs.declared.parts.Parts.{Parts}
use Rattle.sas_flat.specs.declared.columns.TaskColumns.{TaskColumns}

-- the contents that the columns represent
abbrev pub parts_in : TaskColumns → Parts
parts_in c = record {
  metric = c.metric;
  variables = c.variables;
  groups = c.groups;
  init = c.init;
  goal = c.goal;
  operators = c.operators;
  rules = c.rules;
}
