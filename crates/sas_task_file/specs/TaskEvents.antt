-- What each line of a task file adds to the content read so far.
use Rattle.std.specs.Global.{Global}
use Rattle.std.specs.Prelude.{ℕ, false, List, [], ◌∷◌, ◌++◌, ◌==◌, None}
use Rattle.sas_core.specs.declared.parts.Fact.{Fact}
use Rattle.sas_core.specs.declared.parts.Variable.{Variable}
use Rattle.sas_core.specs.declared.parts.Operator.{Operator}
use Rattle.sas_core.specs.declared.parts.Effect.{Effect}
use Rattle.sas_core.specs.declared.parts.Parts.{Parts}
use Rattle.sas_task_file.specs.declared.places.Event.{Event}
use Rattle.sas_task_file.specs.declared.places.Event.TheVariants as event
use Rattle.sas_task_file.specs.declared.line_values.LineValues.{LineValues}
use Rattle.sas_task_file.specs.declared.so_far.SoFar.{SoFar}

-- no parts were read yet
abbrev pub no_parts : Parts
no_parts = record {
  metric = false;
  variables = [];
  groups = [];
  init = [];
  goal = [];
  operators = [];
  rules = [];
}

-- nothing was read yet
abbrev pub nothing_yet : Global → SoFar
nothing_yet alloc = record {
  alloc = alloc;
  parts = no_parts;
  name = [];
  layer = None;
  values = [];
  facts = [];
  effects = [];
}

-- the variable, the operator or the rule that the current line completes
abbrev pub finished_variable : SoFar → Variable
finished_variable s = record { name = s.name; layer = s.layer; values = s.values }

abbrev pub finished_operator : SoFar → LineValues → Operator
finished_operator s said =
    record { name = s.name; prevail = s.facts; effects = s.effects; cost = said.number }

abbrev pub finished_rule : SoFar → LineValues → Effect
finished_rule s said =
    record { conditions = s.facts; var = said.head.var; old = said.head.old; new = said.head.new }

-- the content after all lines of a variable, a mutex group, an operator or a rule
abbrev pub behind_variable : SoFar → Variable → SoFar
behind_variable s v = record s {
  parts = record s.parts { variables = s.parts.variables ++ v ∷ [] };
  name = [];
  layer = v.layer;
  values = [];
}

abbrev pub behind_group : SoFar → List Fact → SoFar
behind_group s g =
    record s { parts = record s.parts { groups = s.parts.groups ++ g ∷ [] }; facts = [] }

abbrev pub behind_operator : SoFar → Operator → SoFar
behind_operator s o = record s {
  parts = record s.parts { operators = s.parts.operators ++ o ∷ [] };
  name = [];
  facts = [];
  effects = [];
}

abbrev pub behind_rule : SoFar → Effect → SoFar
behind_rule s r =
    record s { parts = record s.parts { rules = s.parts.rules ++ r ∷ [] }; facts = [] }

-- the content after a line that adds this
abbrev pub after : SoFar → Event → LineValues → List ℕ → SoFar
after s event.Nothing said line = s
after s event.Metric said line = record s { parts = record s.parts { metric = said.number == 1 } }
after s event.Name said line = record s { name = line }
after s event.Layer said line = record s { layer = said.layer }
after s event.Values said line = record s { values = [] }
after s event.Value said line = record s { values = s.values ++ line ∷ [] }
after s event.Variable said line = behind_variable s (finished_variable s)
after s event.Facts said line = record s { facts = [] }
after s event.Fact said line = record s { facts = s.facts ++ said.fact ∷ [] }
after s event.Group said line = behind_group s s.facts
after s event.State said line =
    record s { parts = record s.parts { init = s.parts.init ++ said.number ∷ [] } }
after s event.Goal said line =
    record s { parts = record s.parts { goal = s.parts.goal ++ said.fact ∷ [] } }
after s event.Effects said line = record s { effects = [] }
after s event.Effect said line = record s { effects = s.effects ++ said.effect ∷ [] }
after s event.Operator said line = behind_operator s (finished_operator s said)
after s event.Rule said line = behind_rule s (finished_rule s said)
