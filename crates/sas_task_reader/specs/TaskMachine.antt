-- What the machine of task files represents: the lines so far, their content, and what is stored of
-- it.
use Rattle.std.specs.Prelude.{◌≡◌, ℕ, List, [], length}
use Rattle.std.specs.Global.{Global}
use Rattle.sas_reader.specs.declared.fault.Kind.{Kind}
use Rattle.sas_task_file.specs.declared.so_far.SoFar.{SoFar}
use Rattle.sas_task_reader.specs.declared.task_machine.TaskMachine.{TaskMachine}
use Rattle.sas_reader.specs.Machine.{Behavior}
use Rattle.sas_reader.specs.System.{Leads}
use Rattle.sas_task_file.specs.declared.counts.Counts.{Counts}
use Rattle.sas_task_file.specs.TaskFormat.{TaskLine, task_format, TaskLineFits}
use Rattle.sas_task_file.specs.TaskEvents.{nothing_yet}
use Rattle.sas_task_file.specs.Tracker.{tracker_start, counts_start, counts_after, count_at}
use Rattle.sas_task_reader.specs.declared.task_judge.TaskJudge.{TaskJudge}
use Rattle.sas_task_reader.specs.TaskJudge.{state_of, HasEnded, RejectsLine, StandsAsBefore}
use Rattle.sas_task_file.specs.TaskStates.{table_node, table_start}
use Rattle.sas_task_reader.specs.NextLine.{count_of, WrongWordIn}

-- the counts after the first lines of a task
abbrev pub counts_behind : List TaskLine → Counts
counts_behind items = counts_after 1 tracker_start counts_start items

-- the judge has noted the counts after these lines, as far as they still apply
pub record HasNoted (items : List TaskLine) (j : TaskJudge) : Type 0 where
  pub section : j.counts.section ≡ (counts_behind items).section
  pub here : count_of j ≡ count_at j.tracker.place (length j.tracker.ranges)
      (counts_behind items)

-- after refusing a line, the machine is unchanged and knows the wrong word of the line
pub record MachineStopped {K : Type 0} (m : TaskMachine K) (line : List ℕ) (kind : Kind)
    (n : TaskMachine K) : Type 0 where
  pub judge : StandsAsBefore m.judge n.judge
  pub kept : n.kept ≡ m.kept
  pub wrong : WrongWordIn m.judge line kind n.wrong

module _ {K : Type 0} (keeps : List (List ℕ) → SoFar → K → Type 0) where
  -- these lines have the content `so_far`, of which the keeper has stored what it needs
  pub record LedBy (lines : List (List ℕ)) (m : TaskMachine K) : Type 0 where
    pub so_far : SoFar
    pub leads : Leads task_format TaskLineFits table_node table_start lines
        (state_of m.judge so_far)
    pub kept : keeps lines so_far m.kept
    pub counts : HasNoted leads.items m.judge

  -- the keeper before any line was read
  abbrev pub IsFresh : K → Type 0
  IsFresh kept = (alloc : Global) × keeps [] (nothing_yet alloc) kept

  -- the machine of this keeper
  abbrev pub task_behavior : Behavior (TaskMachine K)
  task_behavior = record {
    led_by = LedBy;
    ended = λ m. HasEnded m.judge;
    rejects = λ m line kind. RejectsLine m.judge line kind;
    stopped = MachineStopped;
  }

-- the machine of the reader stores the whole content
abbrev pub reader_behavior : Behavior (TaskMachine SoFar)
reader_behavior = task_behavior (λ lines s kept. kept ≡ s)
