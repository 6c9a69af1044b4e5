-- A task file is read, or is refused with its reason.
use Rattle.std.specs.Prelude.{◌↔◌, ℕ, List, Option, Result, IsTrue}
use Rattle.sas_lines.specs.Device.{Device}
use Rattle.sas_reader.specs.declared.fault.Fault.{Fault}
use Rattle.sas_reader.specs.declared.found.Excerpt.{Excerpt}
use Rattle.sas_reader.specs.About.{EndsUnended}
use Rattle.sas_reader.specs.Refusals.{ReadsOrExplains}
use Rattle.sas_task_file.specs.TaskFormat.{task_format}
use Rattle.sas_task_file.specs.Counts.{IsCounted}
use Rattle.sas_task_file.specs.TaskReasons.{IsTaskReason}
use Rattle.sas_task_reader.specs.declared.task_refusal.TaskRefusal.{TaskRefusal}

-- the fault, and the text found there
abbrev pub fault_in : TaskRefusal → Fault
fault_in r = r.fault

abbrev pub found_in : TaskRefusal → Excerpt
found_in r = r.found

-- after the accepted lines, this text is refused for the reason in the refusal
pub record HasReason (accepted : List (List ℕ)) (text : List ℕ) (r : TaskRefusal) : Type 0 where
  pub reason : IsTaskReason r.fault.kind accepted text r.mark r.word
  pub counted : IsCounted accepted r.count
  pub unended : IsTrue r.lacks_line_end ↔ EndsUnended task_format r.fault.kind accepted text

-- the promise of a call that reads a task from a device, or refuses it with the reason
abbrev pub ReadsTask : {D A : Type 0} → (D → Option (List ℕ)) → (List ℕ → A → Type 0) → Device D
    → Device D → Result A TaskRefusal → Type 0
ReadsTask left Gives old new result =
    ReadsOrExplains task_format fault_in found_in HasReason left Gives old new result
