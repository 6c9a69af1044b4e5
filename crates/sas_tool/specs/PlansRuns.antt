-- What the program does at a call over a task and many plans.
use Rattle.std.specs.Prelude.{◌≡◌, ◌⊎◌, ◌<◌, ◌≤◌, ◌+◌, ⊤, ℕ, Bool, if◌then◌else◌, List, [], length, slice_index_or, All, count_by, bytes_eq, codes, Option, Some, Result, Ok, Err}
use Rattle.std.specs.Io.KnownBytes.{Appends}
use Rattle.sas_answers.specs.declared.ending.Status.{Status}
use Rattle.sas_answers.specs.declared.ending.ToolFault.TheVariants.{Memory}
use Rattle.sas_requests.specs.Inputs.{IsLabel, tool_result}
use Rattle.sas_requests.specs.Judged.{EndsPlans, JudgeOut, PlansHeadline}
use Rattle.sas_requests.specs.declared.inputs.JudgeFault.{JudgeFault}
use Rattle.sas_requests.specs.declared.inputs.JudgeFault.TheVariants.{Tool}
use Rattle.sas_tool.specs.Held.{Held, absent, holds}
use Rattle.sas_tool.specs.PlansEndings.{plans_status, plans_text}
use Rattle.sas_tool.specs.declared.plan_files.PlansEnded.{PlansEnded}
use Rattle.sas_tool.specs.declared.plan_files.PlansEnded.TheVariants as ended

-- the inputs that these words name hold these bytes
abbrev pub AllHold : (List ℕ → Held) → List (List ℕ) → List (List ℕ) → Type 0
AllHold held words cs = (length cs ≡ length words)
    × ((number : ℕ) → number < length words
    → held (slice_index_or words number []) ≡ holds (slice_index_or cs number []))

-- how often a task and plans are standard input
abbrev pub inputs_named : List ℕ → List (List ℕ) → ℕ
inputs_named task labels = (if bytes_eq task (codes "-") then 1 else 0)
    + count_by (λ label. bytes_eq label (codes "-")) labels

-- The run ended before the task was opened, and rightly so: a label has a line end, standard input is
-- named `twice`, memory was refused, or a closed stream wasn't replaced.
abbrev pub IsRefused : List (List ℕ) → Type 0 → PlansEnded → Type 0
IsRefused labels Twice ended.NoLabel = All IsLabel labels → ⊥
IsRefused labels Twice ended.InputTwice = Twice
IsRefused labels Twice ended.NotReady = ⊤
IsRefused labels Twice (ended.Judged (Err (Tool Memory))) = ⊤
IsRefused labels Twice _ = ⊥

-- How a run ended over a task and plans of which this is known, as `Ran` says it of one plan.
pub record PlansRan (why : Bool) (labels : List (List ℕ)) (Twice : Type 0) (task : Held)
    (held : List ℕ → Held) (old new : Option (List ℕ)) (Same : Type 0) (end : PlansEnded)
    : Type 0 where
  pub answers : (b : List ℕ) (cs : List (List ℕ)) → task ≡ holds b → AllHold held labels cs
      → ((result : Result Status JudgeFault) × (end ≡ ended.Judged result)
      × EndsPlans why (JudgeOut why labels b cs) (Appends old new) (tool_result result))
      ⊎ (IsRefused labels Twice end × Same)
  pub no_task : task ≡ absent
      → ((end ≡ ended.TaskNotOpened) ⊎ IsRefused labels Twice end) × Same
  pub headline : (b before : List ℕ) (cs : List (List ℕ)) (status : Status)
      → end ≡ ended.Judged (Ok status) → task ≡ holds b → AllHold held labels cs
      → old ≡ Some before → PlansHeadline why labels b cs (Appends old new) status

-- The program ended with this status, over the task and the plans that these words name, as `Does`
-- says it of one plan.
pub record PlansDo (held : List ℕ → Held) (why : Bool) (task : List ℕ) (labels : List (List ℕ))
    (old new : Option (List ℕ)) (Same : Type 0) (Put : List ℕ → Type 0) (status : ℕ) : Type 0 where
  pub end : PlansEnded
  pub ran : PlansRan why labels (2 ≤ inputs_named task labels) (held task) held old new Same end
  pub ends : status ≡ plans_status end
  pub put : Put (plans_text why task labels end)
