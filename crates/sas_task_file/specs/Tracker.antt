-- The table of places: for each place of a task file the location of the next line, what is
-- expected there, what the line adds to the task, and how it moves the tracker. A tracker follows
-- the lines of a task, one after another, by this table. Proofs use it. The definition of what is
-- expected is in the marks of a task.
use Rattle.std.specs.Prelude.{◌≡◌, ℕ, zero, suc, ◌+◌, ◌-◌, List, [], ◌∷◌, ◌++◌, length, slice_index_or, Option, Some, None}
use Rattle.sas_task_file.specs.declared.places.Place.{Place}
use Rattle.sas_task_file.specs.declared.places.Place.TheVariants as place
use Rattle.sas_task_file.specs.declared.places.Event.{Event}
use Rattle.sas_task_file.specs.declared.places.Event.TheVariants as adds
use Rattle.sas_task_file.specs.declared.places.Move.{Move}
use Rattle.sas_task_file.specs.declared.places.Move.TheVariants as moves
use Rattle.sas_task_file.specs.declared.places.Row.{Row}
use Rattle.sas_task_file.specs.declared.marks.Due.{Due}
use Rattle.sas_task_file.specs.declared.marks.Due.TheVariants as due
use Rattle.sas_task_file.specs.declared.marks.FixedWord.{FixedWord}
use Rattle.sas_task_file.specs.declared.marks.FixedWord.TheVariants as fixed
use Rattle.sas_task_file.specs.declared.marks.Location.{Location}
use Rattle.sas_task_file.specs.declared.marks.Location.TheVariants as at
use Rattle.sas_task_file.specs.declared.marks.Mark.{Mark}
use Rattle.sas_task_file.specs.declared.marks.What.{What}
use Rattle.sas_task_file.specs.declared.marks.What.TheVariants as what
use Rattle.sas_task_file.specs.Counts.{counted_on_seven}
use Rattle.sas_task_file.specs.Marks.{any_number, positive_number}
use Rattle.sas_task_file.specs.TaskFormat.{TaskLine}
use Rattle.sas_task_file.specs.TaskValues.{number_in}
use Rattle.sas_task_file.specs.declared.tracker.Tracker.{Tracker}
use Rattle.sas_task_file.specs.declared.counts.Counts.{Counts}
use Rattle.sas_task_file.specs.declared.counts.ListCount.{ListCount}

-- before the first line
abbrev pub tracker_start : Tracker
tracker_start =
    record { place = place.VersionBegin; total = 0; left = 0; more = 0; ranges = [] }

-- ---- rows

-- a line after which the place is `to`
abbrev pub line_row : Location → Due → Event → Place → Row
line_row l d e to = record { at = l; due = d; adds = e; moves = moves.To to }

-- a fixed word that adds nothing
abbrev pub word_row : Location → FixedWord → Place → Row
word_row l w to = line_row l (due.Word w) adds.Nothing to

-- a number of variables, groups, operators or rules, and the first line of one of these
abbrev pub count_row : Location → Due → Place → Row
count_row l d to = record { at = l; due = d; adds = adds.Nothing; moves = moves.Count to }

abbrev pub begin_row : Location → FixedWord → Place → Row
begin_row l w to = record { at = l; due = due.Word w; adds = adds.Nothing; moves = moves.Begin to }

-- a number of facts or effects, and a value, a fact or an effect of a list
abbrev pub list_row : Location → What → Event → Place → Row
list_row l its e to =
    record { at = l; due = any_number its; adds = e; moves = moves.List to }

abbrev pub item_row : Location → Due → Event → Row
item_row l d e = record { at = l; due = d; adds = e; moves = moves.Item }

-- ---- the table

-- the first result if the count is zero, else the second
abbrev pub by_count : {A : Type 0} → ℕ → A → A → A
by_count zero none some = none
by_count (suc n) none some = some

-- the number of the next variable, group, operator or rule, and of the current one
abbrev pub next_number : Tracker → ℕ
next_number t = t.total - t.left

abbrev pub this_number : Tracker → ℕ
this_number t = t.total - t.left - 1

-- the next variable in the initial state, and its greatest value
abbrev pub next_variable : Tracker → ℕ
next_variable t = length t.ranges - t.more

abbrev pub most_value : Tracker → ℕ
most_value t = slice_index_or t.ranges (next_variable t) 0 - 1

abbrev pub value_due : Tracker → Due
value_due t = due.Number (what.ValueOf (next_variable t)) 0 (most_value t)

abbrev pub row_at : Place → Tracker → Row
row_at place.VersionBegin t = word_row at.Version fixed.BeginVersion place.VersionNumber
row_at place.VersionNumber t =
    line_row at.Version (due.Number what.Version 3 3) adds.Nothing place.VersionEnd
row_at place.VersionEnd t = word_row at.Version fixed.EndVersion place.MetricBegin
row_at place.MetricBegin t = word_row at.Metric fixed.BeginMetric place.MetricNumber
row_at place.MetricNumber t = line_row at.Metric (due.Number what.Metric 0 1) adds.Metric place.MetricEnd
row_at place.MetricEnd t = word_row at.Metric fixed.EndMetric place.VariableCount
row_at place.VariableCount t = count_row at.Variables (positive_number what.Variables) place.Variables
row_at place.Variables t = by_count t.left
    (count_row at.Groups (any_number what.Groups) place.Groups)
    (begin_row (at.Variable (next_number t)) fixed.BeginVariable place.VariableName)
row_at place.VariableName t =
    line_row (at.Variable (this_number t)) (due.Name what.Variable) adds.Name place.VariableLayer
row_at place.VariableLayer t =
    line_row (at.Variable (this_number t)) due.Layer adds.Layer place.VariableRange
row_at place.VariableRange t = record {
  at = at.Variable (this_number t);
  due = positive_number what.Range;
  adds = adds.Values;
  moves = moves.Range place.VariableValues;
}
row_at place.VariableValues t = by_count t.more
    (line_row (at.Variable (this_number t)) (due.Word fixed.EndVariable) adds.Variable
    place.Variables)
    (item_row (at.Variable (this_number t)) (due.Name what.Value) adds.Value)
row_at place.Groups t = by_count t.left
    (record {
      at = at.State;
      due = due.Word fixed.BeginState;
      adds = adds.Nothing;
      moves = moves.State place.StateValues;
    })
    (begin_row (at.Group (next_number t)) fixed.BeginMutexGroup place.GroupSize)
row_at place.GroupSize t = list_row (at.Group (this_number t)) what.Facts adds.Facts place.GroupFacts
row_at place.GroupFacts t = by_count t.more
    (line_row (at.Group (this_number t)) (due.Word fixed.EndMutexGroup) adds.Group place.Groups)
    (item_row (at.Group (this_number t)) due.Fact adds.Fact)
row_at place.StateValues t = by_count t.more
    (word_row at.State fixed.EndState place.GoalBegin)
    (item_row at.State (value_due t) adds.State)
row_at place.GoalBegin t = word_row at.Goal fixed.BeginGoal place.GoalSize
row_at place.GoalSize t = list_row at.Goal what.Facts adds.Nothing place.GoalFacts
row_at place.GoalFacts t = by_count t.more
    (word_row at.Goal fixed.EndGoal place.OperatorCount)
    (item_row at.Goal due.Fact adds.Goal)
row_at place.OperatorCount t = count_row at.Operators (any_number what.Operators) place.Operators
row_at place.Operators t = by_count t.left
    (count_row at.Rules (any_number what.Rules) place.Rules)
    (begin_row (at.Operator (next_number t)) fixed.BeginOperator place.OperatorName)
row_at place.OperatorName t =
    line_row (at.Operator (this_number t)) (due.Name what.Operator) adds.Name place.PrevailCount
row_at place.PrevailCount t = list_row (at.Operator (this_number t)) what.Prevail adds.Facts place.Prevail
row_at place.Prevail t = by_count t.more
    (list_row (at.Operator (this_number t)) what.Effects adds.Effects place.Effects)
    (item_row (at.Operator (this_number t)) due.Fact adds.Fact)
row_at place.Effects t = by_count t.more
    (line_row (at.Operator (this_number t)) (any_number what.Cost) adds.Operator place.OperatorEnd)
    (item_row (at.Operator (this_number t)) due.Effect adds.Effect)
row_at place.OperatorEnd t =
    word_row (at.Operator (this_number t)) fixed.EndOperator place.Operators
row_at place.Rules t = by_count t.left
    (line_row at.End due.Nothing adds.Nothing place.Rules)
    (begin_row (at.Rule (next_number t)) fixed.BeginRule place.RuleSize)
row_at place.RuleSize t = list_row (at.Rule (this_number t)) what.Conditions adds.Facts place.RuleConditions
row_at place.RuleConditions t = by_count t.more
    (line_row (at.Rule (this_number t)) due.Head adds.Rule place.RuleEnd)
    (item_row (at.Rule (this_number t)) due.Fact adds.Fact)
row_at place.RuleEnd t = word_row (at.Rule (this_number t)) fixed.EndRule place.Rules

-- the row of the next line
abbrev pub row_in : Tracker → Row
row_in t = row_at t.place t

pub record IsRow (t : Tracker) (r : Row) : Type 0 where
  pub is : r ≡ row_in t

-- ---- along the lines

-- the tracker after a line with this number
abbrev pub after_move : Move → ℕ → Tracker → Tracker
after_move (moves.To p) n t = record t { place = p }
after_move (moves.Count p) n t = record t { place = p; total = n; left = n }
after_move (moves.Begin p) n t = record t { place = p; left = t.left - 1 }
after_move (moves.List p) n t = record t { place = p; more = n }
after_move (moves.Range p) n t = record t { place = p; more = n; ranges = t.ranges ++ n ∷ [] }
after_move (moves.State p) n t = record t { place = p; more = length t.ranges }
after_move moves.Item n t = record t { more = t.more - 1 }

-- the tracker after one more line
abbrev pub track_line : Tracker → TaskLine → Tracker
track_line t i = after_move (row_in t).moves (number_in i) t

-- the tracker after all of these lines
abbrev pub track : Tracker → List TaskLine → Tracker
track t [] = t
track t (i ∷ items) = track (track_line t i) items

-- the location of the next line, and what is expected there
abbrev pub mark : Location → Due → Mark
mark where_it_stands what = record { at = where_it_stands; due = what }

abbrev pub mark_in : Tracker → Mark
mark_in t = mark (row_in t).at (row_in t).due

-- ---- the numbers of items

-- before the first line
abbrev pub counts_start : Counts
counts_start = record {
  section = record { line = 0; number = 0 };
  list = record { line = 0; number = 0 };
}

-- the counts after line k, which has this number
abbrev pub after_count : Move → ℕ → ℕ → Counts → Counts
after_count (moves.Count p) k n c = record c { section = record { line = k; number = n } }
after_count (moves.List p) k n c = record c { list = record { line = k; number = n } }
after_count (moves.Range p) k n c = record c { list = record { line = k; number = n } }
after_count _ k n c = c

-- the count of the list whose next item is due at the place, or whose last item is directly before;
-- the values of the state are counted by this number of variables
abbrev pub count_at : Place → ℕ → Counts → Option ListCount
count_at place.Variables variables c = Some c.section
count_at place.VariableValues variables c = Some c.list
count_at place.Groups variables c = Some c.section
count_at place.GroupFacts variables c = Some c.list
count_at place.StateValues variables c = Some (counted_on_seven variables)
count_at place.GoalFacts variables c = Some c.list
count_at place.Operators variables c = Some c.section
count_at place.Prevail variables c = Some c.list
count_at place.Effects variables c = Some c.list
count_at place.Rules variables c = Some c.section
count_at place.RuleConditions variables c = Some c.list
count_at _ variables c = None

-- the counts after all of these lines, of which the first is line k
abbrev pub counts_after : ℕ → Tracker → Counts → List TaskLine → Counts
counts_after k t c [] = c
counts_after k t c (i ∷ items) =
    counts_after (k + 1) (track_line t i) (after_count (row_in t).moves k (number_in i) c) items
