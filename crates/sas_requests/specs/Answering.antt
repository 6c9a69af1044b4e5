-- Outputs about files, with reasons or without; and what the private steps of a run promise.
use Rattle.std.specs.Prelude.{ℕ, Bool, true, false, List, codes, Option, option_map, Result, ⊤}
use Rattle.sas_core.specs.declared.parts.Parts.{Parts}
use Rattle.sas_core.specs.PlanParts.{PlanParts}
use Rattle.sas_reader.specs.declared.fault.Fault.{Fault}
use Rattle.sas_reader.specs.Format.{Format}
use Rattle.sas_reader.specs.Found.{kept_in}
use Rattle.sas_plan_file.specs.declared.plan_refusal.PlanRefusal.{PlanRefusal}
use Rattle.sas_plan_file.specs.PlanFormat.{plan_format}
use Rattle.sas_task_file.specs.TaskFormat.{task_format}
use Rattle.sas_task_reader.specs.declared.task_refusal.TaskRefusal.{TaskRefusal}
use Rattle.sas_requests.specs.FileLine.{FileLine, file_text, plan_reasons, task_reasons}
use Rattle.sas_answers.specs.Ending.{Output}
use Rattle.sas_task_reasons.specs.WhyLayers.{with_reasons}
use Rattle.sas_requests.specs.Output.{FileOut, UnlayeredAnswer, refusal}
use Rattle.sas_requests.specs.declared.tasks.ReadTask.{ReadTask}
use Rattle.sas_requests.specs.declared.tasks.ReadTask.TheVariants.{Layered, Ended}
use Rattle.sas_answers.specs.declared.ending.Status.{Status}
use Rattle.sas_answers.specs.declared.ending.ToolFault.{ToolFault}
use Rattle.sas_requests.specs.FileReasons.{FileReasons, AreTaskReasons, ArePlanReasons}
use Rattle.sas_requests.specs.OutBy.{ReasonedBy, layers_by}

-- ---- refusals, with reasons or without

-- this refusal, for the first fault
abbrev pub UnlayeredBy : (reasons : Bool) → Parts → Output → Type 0
UnlayeredBy reasons = UnlayeredAnswer (layers_by reasons)

-- an output, which these reasons may follow
abbrev pub explained_by : Bool → List FileLine → Option Output → Option Output
explained_by true reasons output = option_map (with_reasons (file_text reasons)) output
explained_by false reasons output = output

-- the refusal of the file of this name for its fault
abbrev pub refusal_by : Bool → List ℕ → Fault → List FileLine → Option Output
refusal_by explains name fault reasons = explained_by explains reasons (refusal name fault)

-- the reasons why a task is refused, and a plan
abbrev pub task_refusal_lines : TaskRefusal → List FileLine
task_refusal_lines r = task_reasons r.fault (kept_in r.found)
    (record { line_end = r.lacks_line_end; cost_line = false }) r.mark r.word r.count

abbrev pub plan_refusal_lines : PlanRefusal → List FileLine
plan_refusal_lines r = plan_reasons r.fault (kept_in r.found)
    (record { line_end = r.lacks_line_end; cost_line = r.lacks_cost_line })

-- ---- outputs, with reasons or without

-- about the bytes of one file. `IsAnswer` holds of the outputs that are answers about a value
module _ {V I S : Type 0} (F : Format V I S)
    (Explains : List ℕ → Fault → List (List ℕ) → List ℕ → List FileLine → Type 0) (name : List ℕ) where
  abbrev pub FileBy : (reasons : Bool) → (V → Output → Type 0) → List ℕ → Option Output → Type 0
  FileBy reasons IsAnswer b =
      ReasonedBy reasons (FileOut F name IsAnswer b) (FileReasons F Explains b)

abbrev pub TaskBy : (reasons : Bool) → (Parts → Output → Type 0) → List ℕ → Option Output → Type 0
TaskBy = FileBy task_format AreTaskReasons (codes "task")

abbrev pub PlanBy : (reasons : Bool) → (PlanParts → Output → Type 0) → List ℕ → Option Output → Type 0
PlanBy = FileBy plan_format ArePlanReasons (codes "plan")

-- ---- tasks that are read

-- what holds of the task if it is layered
abbrev pub IfLayered : ReadTask → (Parts → Type 0) → Type 0
IfLayered (Layered p) Holds = Holds p
IfLayered (Ended ended) Holds = ⊤

-- what holds of how the run has ended without one
abbrev pub IfEnded : ReadTask → (Result Status ToolFault → Type 0) → Type 0
IfEnded (Layered p) Holds = ⊤
IfEnded (Ended ended) Holds = Holds ended
