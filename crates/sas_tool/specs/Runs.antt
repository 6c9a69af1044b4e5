-- What a run over a task, a plan or both does.
use Rattle.std.specs.Prelude.{◌≡◌, ◌⊎◌, ◌<◌, ℕ, List, Option, Some, Result, Err, IfOk}
use Rattle.std.specs.Io.KnownBytes.{Appends}
use Rattle.sas_answers.specs.Ending.{EndsCounting}
use Rattle.sas_answers.specs.declared.ending.Status.{Status}
use Rattle.sas_answers.specs.declared.ending.ToolFault.{ToolFault}
use Rattle.sas_answers.specs.declared.ending.ToolFault.TheVariants.{Memory}
use Rattle.sas_requests.specs.Headline.{Headline}
use Rattle.sas_requests.specs.Invariants.{Invariants}
use Rattle.sas_requests.specs.OutBy.{OutBy, SendsLine}
use Rattle.sas_requests.specs.declared.question.Request.TheVariants.{Mutex, Plan}
use Rattle.sas_requests.specs.declared.question.Question.{Question}
use Rattle.sas_tool.specs.Endings.{status_of}
use Rattle.sas_tool.specs.Held.{Held, absent, holds}
use Rattle.sas_tool.specs.Says.{Says}
use Rattle.sas_tool.specs.declared.arguments.Source.{Source}
use Rattle.sas_tool.specs.declared.endings.Ended.{Ended}
use Rattle.sas_tool.specs.declared.endings.Ended.TheVariants as ended

-- The question was answered about inputs that have these bytes left, if that is known.
pub record IsAnswered (question : Question) (task plan old new : Option (List ℕ))
    (result : Result Status ToolFault) : Type 0 where
  pub answers : (b c : List ℕ) → task ≡ Some b → plan ≡ Some c
      → EndsCounting (OutBy question.detail question.request b c) (Appends old new) result
  pub headline : question.request ≡ Plan → IfOk result (λ status. (b c before : List ℕ)
      → task ≡ Some b → plan ≡ Some c → old ≡ Some before
      → Headline b c (SendsLine question.detail.trace old new) status)
  pub invariants : question.request ≡ Mutex → IfOk result (λ status. (b before : List ℕ)
      → task ≡ Some b → old ≡ Some before → Invariants b (Appends old new))

-- it was stopped before an answer: memory was refused, or a closed stream wasn't replaced
abbrev pub IsStopped : Ended → Type 0
IsStopped end = (end ≡ ended.Answered (Err Memory)) ⊎ (end ≡ ended.NotReady)

-- How a run ended over a task and a plan of which this is known. A writer that held the bytes `old`
-- holds `new`, if these are known. If nothing was written, `Same` holds.
pub record Ran (question : Question) (task plan : Held) (old new : Option (List ℕ))
    (Same : Type 0) (end : Ended) : Type 0 where
  -- of inputs whose bytes are known, the output went out, or its first bytes, or there is none
  pub answers : (b c : List ℕ) → task ≡ holds b → plan ≡ holds c
      → ((result : Result Status ToolFault) × (end ≡ ended.Answered result)
      × EndsCounting (OutBy question.detail question.request b c) (Appends old new) result)
      ⊎ ((end ≡ ended.NotReady) × Same)
  -- if an input can't be opened, nothing is written; the task comes first
  pub no_task : task ≡ absent → ((end ≡ ended.TaskNotOpened) ⊎ IsStopped end) × Same
  pub no_plan : (b : List ℕ) → task ≡ holds b → plan ≡ absent
      → ((end ≡ ended.PlanNotOpened) ⊎ IsStopped end) × Same
  -- what the exit status of `plan` says
  pub says : question.request ≡ Plan → (b c before : List ℕ) → task ≡ holds b → plan ≡ holds c
      → old ≡ Some before → Says b c (SendsLine question.detail.trace old new) (status_of end)
  -- what the answer of `mutex` says
  pub invariants : question.request ≡ Mutex → (b before : List ℕ) → task ≡ holds b
      → old ≡ Some before → status_of end < 2 → Invariants b (Appends old new)

-- of these inputs, the one that was opened or read last
abbrev pub IsLastOf : Option Source → Option Source → Ended → Option Source → Type 0
IsLastOf task plan ended.TaskNotOpened last = last ≡ task
IsLastOf task plan ended.PlanNotOpened last = last ≡ plan
IsLastOf task plan _ last = (last ≡ task) ⊎ (last ≡ plan)
