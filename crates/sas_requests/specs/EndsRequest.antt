-- How an answer is written: that about one file, and that to a request.
use Rattle.std.specs.Prelude.{◌≡◌, ◌↔◌, ◌||◌, ℕ, List, Option, Some, Result, IsErrOf, IsFalse, IsTrue}
use Rattle.std.specs.Io.KnownBytes.{Consumes}
use Rattle.sas_lines.specs.Device.{Device}
use Rattle.sas_answers.specs.declared.ending.Status.{Status}
use Rattle.sas_answers.specs.declared.ending.ToolFault.{ToolFault}
use Rattle.sas_answers.specs.declared.ending.ToolFault.TheVariants as fault
use Rattle.sas_answers.specs.Ending.{Output, EndsCounting, IsDecided}
use Rattle.sas_requests.specs.declared.question.Request.{Request}
use Rattle.sas_requests.specs.declared.question.Request.TheVariants as requests
use Rattle.sas_requests.specs.Output.{AreInputs, IsLayeredText, reads_plan, reads_task}

-- How the output about one file went out. `left` maps a device to the bytes that it has left, where
-- these are known. `FileOutput` is the output about the bytes of a file. `Sent` holds of the bytes
-- that were written.
module _ {D : Type 0} (left : D → Option (List ℕ))
    (FileOutput : List ℕ → Option Output → Type 0) (old new : Device D) where
  pub record EndsFile (Sent : List ℕ → Type 0) (result : Result Status ToolFault) : Type 0 where
    -- of a file whose bytes are known, its output went out
    pub output : (bytes : List ℕ) → left old.device ≡ Some bytes
        → EndsCounting (FileOutput bytes) Sent result
    -- and of any file, the output for the bytes that were read of it
    pub taken : IsDecided result → (bytes : List ℕ)
        × Consumes (left old.device) (left new.device) bytes
        × EndsCounting (FileOutput bytes) Sent result
    pub reads : IsErrOf result fault.Read ↔ IsTrue new.failed

-- How a run ends that answers a request. `left_task` and `left_plan` map the devices to the bytes
-- that they have left, where these are known. `Ended` says how it ends for bytes of the task and of
-- the plan. `Sent` holds of the bytes that were written.
module _ {T P : Type 0} (left_task : T → Option (List ℕ)) (left_plan : P → Option (List ℕ))
    (Ended : List ℕ → List ℕ → (List ℕ → Type 0) → Result Status ToolFault → Type 0)
    (request : Request) (old_task new_task : Device T) (old_plan new_plan : Device P) where
  pub record EndsRequest (Sent : List ℕ → Type 0) (result : Result Status ToolFault) : Type 0 where
    -- of inputs whose bytes are known, it ends so for these
    pub output : (b c : List ℕ)
        → AreInputs request (left_task old_task.device) (left_plan old_plan.device) b c
        → Ended b c Sent result
    -- and of any inputs, for the bytes that were read of them
    pub taken : IsDecided result → (b c : List ℕ)
        × Consumes (left_task old_task.device) (left_task new_task.device) b
        × Consumes (left_plan old_plan.device) (left_plan new_plan.device) c
        × Ended b c Sent result
    -- a device that the request doesn't read stays as it was
    pub task_spared : IsFalse (reads_task request) → new_task ≡ old_task
    pub plan_spared : IsFalse (reads_plan request) → new_plan ≡ old_plan
    -- so does the plan where the task isn't a text of a layered one
    pub plan_waits : request ≡ requests.Plan → (b : List ℕ) → left_task old_task.device ≡ Some b
        → (IsLayeredText b → ⊥) → new_plan ≡ old_plan
    -- a failed read is reported exactly if a device has failed
    pub reads : IsErrOf result fault.Read ↔ IsTrue (new_task.failed || new_plan.failed)
