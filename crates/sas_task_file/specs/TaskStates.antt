-- The states while a task file is read: the tracker, and the content so far. The table of places
-- says which lines may follow in a state, and where they lead.
use Rattle.std.specs.Global.{Global}
use Rattle.sas_core.specs.declared.parts.Parts.{Parts}
use Rattle.sas_reader.specs.System.{Node, ended, before}
use Rattle.sas_task_file.specs.declared.marks.Due.{Due}
use Rattle.sas_task_file.specs.declared.marks.Due.TheVariants as due
use Rattle.sas_task_file.specs.declared.tracker.Tracker.{Tracker}
use Rattle.sas_task_file.specs.Marks.{slot_of_due}
use Rattle.sas_task_file.specs.TaskFormat.{TaskLine, TaskSlot}
use Rattle.sas_task_file.specs.TaskValues.{name_in, number_in, signed_in, fact_in, effect_in, head_in}
use Rattle.sas_task_file.specs.Tracker.{tracker_start, track_line, row_in}
use Rattle.sas_task_file.specs.declared.so_far.SoFar.{SoFar}
use Rattle.sas_task_file.specs.declared.line_values.LineValues.{LineValues}
use Rattle.sas_task_file.specs.TaskEvents.{after, nothing_yet}
use Rattle.sas_task_file.specs.TaskLine.{test_of_due}

pub record TaskState : Type 0 where
  pub tracker : Tracker
  pub so_far : SoFar

-- the allocator, of which there is only one
abbrev pub one_allocator : Global
one_allocator = record { memory = record { seal = tt } }

-- before the first line
abbrev pub table_start : TaskState
table_start = record { tracker = tracker_start; so_far = nothing_yet one_allocator }

-- the numbers of a line
abbrev pub numbers_of : TaskLine → LineValues
numbers_of i = record {
  number = number_in i;
  layer = signed_in i;
  fact = fact_in i;
  effect = effect_in i;
  head = record { var = (head_in i).var; old = (head_in i).old; new = (head_in i).new };
}

-- the state after a line
abbrev pub state_after : TaskState → TaskLine → TaskState
state_after x i = record {
  tracker = track_line x.tracker i;
  so_far = after x.so_far (row_in x.tracker).adds (numbers_of i) (name_in i);
}

-- A line is expected that belongs to the slot and is allowed. If nothing is expected, all lines
-- have been read.
abbrev pub node_of_due : Due → TaskState → Node TaskState Parts TaskLine TaskSlot
node_of_due due.Nothing x = ended x.so_far.parts
node_of_due d x = before (slot_of_due d) (test_of_due x.tracker.ranges d) (state_after x)

abbrev pub table_node : TaskState → Node TaskState Parts TaskLine TaskSlot
table_node x = node_of_due (row_in x.tracker).due x
