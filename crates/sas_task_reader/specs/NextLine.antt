-- The location of the next line, and what is expected there.
use Rattle.std.specs.Prelude.{◌≡◌, ◌≢◌, ◌⊎◌, ℕ, List, Option, None, codes, length}
use Rattle.sas_task_file.specs.declared.marks.Mark.{Mark}
use Rattle.sas_task_file.specs.Tracker.{mark_in, count_at}
use Rattle.sas_task_file.specs.declared.counts.ListCount.{ListCount}
use Rattle.sas_task_file.specs.declared.places.Place.TheVariants as at
use Rattle.sas_task_file.specs.TaskReasons.{FirstWrong}
use Rattle.sas_reader.specs.declared.fault.Kind.{Kind}
use Rattle.sas_reader.specs.declared.fault.Kind.TheVariants as kinds
use Rattle.sas_task_file.specs.declared.marks.WrongWord.{WrongWord}
use Rattle.sas_task_file.specs.Marks.{slot_of_due}
use Rattle.sas_task_file.specs.TaskFormat.{TaskSlot}
use Rattle.sas_task_reader.specs.declared.task_judge.TaskJudge.{TaskJudge}

-- the mark of the next line
abbrev pub mark_of : TaskJudge → Mark
mark_of j = mark_in j.tracker

-- the slot to which the next line belongs
abbrev pub due_slot : TaskJudge → TaskSlot
due_slot j = slot_of_due (mark_of j).due

-- the count of the list whose next item is expected, or whose last item is directly before
abbrev pub count_of : TaskJudge → Option ListCount
count_of j = count_at j.tracker.place (length j.tracker.ranges) j.counts

-- after this line all lines have been read: it is the number of rules, or the end of the last rule
abbrev pub IsLastLine : TaskJudge → List ℕ → Type 0
IsLastLine j line = (j.tracker.left ≡ 0)
    × (((j.tracker.place ≡ at.Operators) × (line ≡ codes "0"))
    ⊎ ((j.tracker.place ≡ at.RuleEnd) × (line ≡ codes "end_rule")))

-- The first wrong word of a line that was refused for a number, if any. For any other fault, it is
-- `None`.
pub record WrongWordIn (j : TaskJudge) (line : List ℕ) (kind : Kind) (word : Option WrongWord)
    : Type 0 where
  pub of_value : kind ≡ kinds.Value → FirstWrong j.tracker.ranges (due_slot j) line word
  pub of_another : kind ≢ kinds.Value → word ≡ None
