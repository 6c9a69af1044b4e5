-- What the judge of the lines of a task file represents: what may still follow the content so far.
use Rattle.std.specs.Prelude.{◌≡◌, ◌≢◌, ◌⊎◌, ◌<◌, ℕ, ◌-◌, List, [], ◌∷◌, ◌++◌, Option, Some, None, Result, Ok, Err}
use Rattle.sas_core.specs.Plain.{IsPlain}
use Rattle.sas_lines.specs.FirstLines.{EndedLines}
use Rattle.sas_reader.specs.declared.fault.Kind.{Kind}
use Rattle.sas_reader.specs.declared.fault.Kind.TheVariants as kinds
use Rattle.sas_task_file.specs.declared.places.Event.{Event}
use Rattle.sas_task_file.specs.declared.places.Row.{Row}
use Rattle.sas_task_file.specs.declared.places.Move.{Move}
use Rattle.sas_task_file.specs.declared.places.Move.TheVariants as moves
use Rattle.sas_task_file.specs.declared.marks.Due.{Due}
use Rattle.sas_task_file.specs.declared.marks.Due.TheVariants as due
use Rattle.sas_task_file.specs.declared.so_far.SoFar.{SoFar}
use Rattle.sas_task_file.specs.declared.places.Place.{Place}
use Rattle.sas_task_file.specs.declared.places.Place.TheVariants as at
use Rattle.sas_task_reader.specs.declared.task_judge.sections.Section.{Section}
use Rattle.sas_task_reader.specs.declared.task_judge.sections.Section.TheVariants as section
use Rattle.sas_task_reader.specs.declared.task_judge.TaskJudge.{TaskJudge}
use Rattle.sas_reader.specs.Faults.{IsOfBytes}
use Rattle.sas_reader.specs.System.{OneLine, Rejects}
use Rattle.sas_task_file.specs.Tracker.{row_in, after_move, after_count}
use Rattle.sas_task_file.specs.declared.tracker.Tracker.{Tracker}
use Rattle.sas_task_file.specs.TaskEvents.{after}
use Rattle.sas_task_file.specs.TaskFormat.{TaskLine, task_line_bytes, task_format, TaskLineFits}
use Rattle.sas_task_file.specs.TaskStates.{TaskState, table_node}

-- ---- what is expected

-- the state of the judge, after the content s
abbrev pub state_of : TaskJudge → SoFar → TaskState
state_of j s = record { tracker = j.tracker; so_far = s }

-- the row of the next line
abbrev pub row_of : TaskJudge → Row
row_of j = row_in j.tracker

-- the row of the next line has this: what is expected, what the line adds, and how it moves the
-- tracker
pub record HasRow (t : Tracker) (d : Due) (e : Event) (m : Move) : Type 0 where
  pub due : (row_in t).due ≡ d
  pub adds : (row_in t).adds ≡ e
  pub moves : (row_in t).moves ≡ m

-- all lines have been read
abbrev pub HasEnded : TaskJudge → Type 0
HasEnded j = (j.tracker.place ≡ at.Rules) × (j.tracker.left ≡ 0)

-- the first line of such a section is expected
abbrev pub SectionDue : TaskJudge → Section → Type 0
SectionDue j section.Variable = (j.tracker.place ≡ at.Variables) × (0 < j.tracker.left)
SectionDue j section.Group = (j.tracker.place ≡ at.Groups) × (0 < j.tracker.left)
SectionDue j section.Operator = (j.tracker.place ≡ at.Operators) × (0 < j.tracker.left)
SectionDue j section.Rule = (j.tracker.place ≡ at.Rules) × (0 < j.tracker.left)

-- the tracker past this section; a variable has this many values
abbrev pub past_section : Option ℕ → Tracker → Tracker
past_section None t = record t { left = t.left - 1; more = 0 }
past_section (Some range) t =
    record t { ranges = t.ranges ++ range ∷ []; left = t.left - 1; more = 0 }

-- ---- one line

-- the line leads from the judge j with content s to the judge k with t
pub record LeadsOn (j : TaskJudge) (s : SoFar) (line : List ℕ) (k : TaskJudge)
    (t : SoFar) : Type 0 where
  pub item : TaskLine
  pub leads : OneLine task_format TaskLineFits (table_node (state_of j s)) item
      (λ x. x ≡ state_of k t)
  pub spells : task_line_bytes item ≡ line

-- the line may not follow, and this is the kind of its fault
abbrev pub RejectsLine : TaskJudge → List ℕ → Kind → Type 0
RejectsLine j line kind = (s : SoFar)
    → Rejects task_format TaskLineFits (table_node (state_of j s)) line kind

-- the judge needs memory for the next line: for a range, or for the conditions of an effect
abbrev pub TakesMemory : TaskJudge → Type 0
TakesMemory j =
    ((p : Place) × ((row_of j).moves ≡ moves.Range p)) ⊎ ((row_of j).due ≡ due.Effect)

-- the judge is unchanged, except for `said`
abbrev pub StandsAsBefore : TaskJudge → TaskJudge → Type 0
StandsAsBefore j k = k ≡ record j { said = k.said }

-- The line leads to the content with what it adds. Or it may not follow, and this is the kind of
-- its fault. Or the judge needs memory and there is none.
abbrev pub JudgesLine : TaskJudge → List ℕ → TaskJudge → Result Event Kind → Type 0
JudgesLine j line k (Ok event) = (s : SoFar) → LeadsOn j s line k (after s event k.said line)
JudgesLine j line k (Err kind) =
    IsOfBytes kind
    × (kind ≡ kinds.Memory → TakesMemory j)
    × (kind ≢ kinds.Memory → RejectsLine j line kind)
    × (kind ≢ kinds.Memory → StandsAsBefore j k)

-- the judge k has noted the number on this line, which moved it from j
abbrev pub NotesLine : TaskJudge → ℕ → TaskJudge → Type 0
NotesLine j number k = (k.tracker ≡ after_move (row_of j).moves k.said.number j.tracker)
    × (k.counts ≡ after_count (row_of j).moves number k.said.number j.counts)

-- The bytes are a line, its end, and the rest. The line leads to the content with what it adds, and
-- is an item of a list.
pub record MovesAhead (j : TaskJudge) (bytes : List ℕ) (k : TaskJudge) (event : Event)
    (rest : List ℕ) : Type 0 where
  pub line : List ℕ
  pub plain : IsPlain line
  pub before : EndedLines (line ∷ []) rest bytes
  pub item : (row_of j).moves ≡ moves.Item
  pub moves : JudgesLine j line k (Ok event)
  pub counts : k.counts ≡ j.counts
