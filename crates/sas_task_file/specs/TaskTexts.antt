-- The task file of Fast Downward (`output.sas`, version 3), section by section.
use Rattle.std.specs.Prelude.{ℕ, Bool, if◌then◌else◌, List, [], ◌∷◌, ◌++◌, length, Option, codes}
use Rattle.std.specs.List.{flat_map}
use Rattle.std.specs.Fmt.{decimal}
use Rattle.sas_core.specs.declared.parts.Fact.{Fact}
use Rattle.sas_core.specs.declared.parts.Variable.{Variable}
use Rattle.sas_core.specs.declared.parts.Effect.{Effect}
use Rattle.sas_core.specs.declared.parts.Operator.{Operator}
use Rattle.sas_core.specs.declared.parts.Parts.{Parts}
use Rattle.sas_core.specs.WellRanged.{WellRanged}
use Rattle.sas_lines.specs.Spelling.{signed_decimal, joined}
use Rattle.sas_reader.specs.Texts.{Texts}

-- ---- single lines

-- a line of a task file, by its content
pub data TaskLine : Type 0 where
  -- a fixed word, such as `begin_version`
  word : List ℕ → TaskLine
  -- the name of a variable, a value or an operator
  name : List ℕ → TaskLine
  -- a count, or a number with a meaning of its own: the version, the metric, a range,
  -- a value in the initial state, a cost
  number : ℕ → TaskLine
  -- an axiom layer, or none for a basic variable
  signed : Option ℕ → TaskLine
  -- a variable and one of its values
  fact : Fact → TaskLine
  -- an effect of an operator: its conditions, its variable, the variable's old value, if any, and
  -- its new value
  effect : Effect → TaskLine
  -- the head of a rule (axiom): its variable, the variable's old value, if any, and its new value
  head : ℕ → Option ℕ → ℕ → TaskLine

-- `var value`
abbrev pub fact_words : Fact → List (List ℕ)
fact_words f = decimal f.var ∷ decimal f.value ∷ []

-- `var old new`, where the old value `-1` means none
abbrev pub head_words : ℕ → Option ℕ → ℕ → List (List ℕ)
head_words var old new = decimal var ∷ signed_decimal old ∷ decimal new ∷ []

-- the number c of conditions, then each as `var value`, then `var old new`: 2c + 4 words
abbrev pub effect_words : Effect → List (List ℕ)
effect_words e =
    (decimal (length e.conditions) ∷ []) ++ flat_map fact_words e.conditions
    ++ head_words e.var e.old e.new

-- the bytes of a line; words are separated by one space
abbrev pub task_line_bytes : TaskLine → List ℕ
task_line_bytes (word w) = w
task_line_bytes (name bytes) = bytes
task_line_bytes (number n) = decimal n
task_line_bytes (signed n) = signed_decimal n
task_line_bytes (fact f) = joined (fact_words f)
task_line_bytes (effect e) = joined (effect_words e)
task_line_bytes (head var old new) = joined (head_words var old new)

-- ---- the sections

-- one line, by its kind and its value: `single_line number 3` is the line `3`, and
-- `single_line fact f` is the line of the fact f
abbrev pub single_line : {A : Type 0} → (A → TaskLine) → A → List TaskLine
single_line says a = says a ∷ []

-- lines between a first and a last word
abbrev pub between : List ℕ → List TaskLine → List ℕ → List TaskLine
between first lines last = single_line word first ++ lines ++ single_line word last

-- the number of items, then the lines of each
abbrev pub counted : {A : Type 0} → (A → List TaskLine) → List A → List TaskLine
counted lines items = single_line number (length items) ++ flat_map lines items

-- the version is 3
abbrev pub version_lines : List TaskLine
version_lines = between (codes "begin_version") (single_line number 3) (codes "end_version")

-- the metric is 1 if the operators' cost lines are used, else 0
abbrev pub metric_lines : Bool → List TaskLine
metric_lines metric = between (codes "begin_metric") (single_line number (if metric then 1 else 0))
    (codes "end_metric")

-- a variable's name, its axiom layer (`-1` for none), the number of its values, and the name of
-- each value
abbrev pub variable_lines : Variable → List TaskLine
variable_lines v =
    between (codes "begin_variable")
    (single_line name v.name
    ++ single_line signed v.layer
    ++ counted (single_line name) v.values)
    (codes "end_variable")

-- the facts of a mutex group
abbrev pub group_lines : List Fact → List TaskLine
group_lines facts = between (codes "begin_mutex_group") (counted (single_line fact) facts)
    (codes "end_mutex_group")

-- the initial state: a value for each variable, in order
abbrev pub state_lines : List ℕ → List TaskLine
state_lines values = between (codes "begin_state") (flat_map (single_line number) values)
    (codes "end_state")

-- the facts of the goal
abbrev pub goal_lines : List Fact → List TaskLine
goal_lines facts = between (codes "begin_goal") (counted (single_line fact) facts)
    (codes "end_goal")

-- an operator's name, its prevail conditions, its effects and its cost
abbrev pub operator_lines : Operator → List TaskLine
operator_lines o =
    between (codes "begin_operator")
    (single_line name o.name
    ++ counted (single_line fact) o.prevail
    ++ counted (single_line effect) o.effects
    ++ single_line number o.cost)
    (codes "end_operator")

-- the conditions of a rule (an axiom) and its head
abbrev pub rule_lines : Effect → List TaskLine
rule_lines r =
    between (codes "begin_rule")
    (counted (single_line fact) r.conditions
    ++ head r.var r.old r.new ∷ [])
    (codes "end_rule")

-- ---- the task

-- the lines of a task file, in order
abbrev pub task_layout : Parts → List TaskLine
task_layout p =
    version_lines
    ++ metric_lines p.metric
    ++ counted variable_lines p.variables
    ++ counted group_lines p.groups
    ++ state_lines p.init
    ++ goal_lines p.goal
    ++ counted operator_lines p.operators
    ++ counted rule_lines p.rules

-- the texts of tasks; each task that a file represents is well ranged
abbrev pub task_texts : Texts Parts TaskLine
task_texts = record { Good = WellRanged; layout = task_layout; spelled = task_line_bytes }
