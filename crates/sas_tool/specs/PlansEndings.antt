-- How a run over many plans ends, and what it writes to standard error.
use Rattle.std.specs.Prelude.{◌++◌, ℕ, Bool, true, false, List, [], codes, slice_index_or, None, Ok, Err}
use Rattle.sas_answers.specs.Shown.{shown_name}
use Rattle.sas_answers.specs.declared.ending.ToolFault.TheVariants as tool
use Rattle.sas_requests.specs.declared.inputs.InputFault.{InputFault}
use Rattle.sas_requests.specs.declared.inputs.InputFault.TheVariants as input
use Rattle.sas_requests.specs.declared.inputs.JudgeFault.TheVariants.{Plan, Tool}
use Rattle.sas_tool.specs.Endings.{text_of}
use Rattle.sas_tool.specs.Statuses.{error_line, exit_status}
use Rattle.sas_tool.specs.declared.plan_files.PlansEnded.{PlansEnded}
use Rattle.sas_tool.specs.declared.plan_files.PlansEnded.TheVariants as ended

abbrev pub plans_status : PlansEnded → ℕ
plans_status ended.NotReady = 3
plans_status ended.NoLabel = 2
plans_status ended.InputTwice = 2
plans_status ended.TaskNotOpened = 3
plans_status (ended.Judged (Ok status)) = exit_status (Ok status)
plans_status (ended.Judged (Err fault)) = 3

abbrev pub fault_words : InputFault → List ℕ
fault_words input.NotOpened = codes "sas: cannot open the plan: "
fault_words input.Read = codes "sas: read failed: "
fault_words input.TooLong = codes "sas: input too long: "

-- with reasons, the line that names the task
abbrev pub task_text : (why : Bool) → List ℕ → List ℕ
task_text true task = codes "  " ++ shown_name task ++ codes "\n"
task_text false task = []

-- what stands on standard error, by the word that names the task and the labels of the plans; a
-- fault of a plan names its label
abbrev pub plans_text : (why : Bool) → List ℕ → List (List ℕ) → PlansEnded → List ℕ
plans_text why task labels ended.NotReady = codes "sas: cannot open /dev/null" ++ codes "\n"
plans_text why task labels ended.NoLabel = codes "sas: a plan's name has a line end" ++ codes "\n"
plans_text why task labels ended.InputTwice = codes "sas: standard input used twice" ++ codes "\n"
plans_text why task labels ended.TaskNotOpened =
    (codes "sas: cannot open the task" ++ codes "\n") ++ task_text why task
plans_text why task labels (ended.Judged (Ok status)) = []
plans_text why task labels (ended.Judged (Err (Tool tool.Read))) =
    (codes "sas: read failed" ++ codes "\n") ++ task_text why task
plans_text why task labels (ended.Judged (Err (Tool tool.TooLong))) =
    (codes "sas: input too long" ++ codes "\n") ++ task_text why task
plans_text why task labels (ended.Judged (Err (Tool fault))) =
    text_of (error_line (Err fault)) false None
plans_text why task labels (ended.Judged (Err (Plan number fault))) =
    fault_words fault ++ (slice_index_or labels number [] ++ codes "\n")
