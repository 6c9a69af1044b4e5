-- How a run ends.
use Rattle.std.specs.Prelude.{◌≡◌, ◌⊎◌, ◌↔◌, ℕ, ◌<◌, ◌^◌, List, length, take, Option, Some, None, Result, Ok, Err, IfErr, IsErrAnd, IsTrue, ⊤}
use Rattle.std.specs.Io.KnownBytes.{Appends}
use Rattle.sas_lines.specs.Device.{Device}
use Rattle.sas_answers.specs.declared.ending.Status.{Status}
use Rattle.sas_answers.specs.declared.ending.ToolFault.{ToolFault}
use Rattle.sas_answers.specs.declared.ending.ToolFault.TheVariants.{Memory, Read, TooLong, Write}
use Rattle.sas_answers.specs.declared.answer.Answer.{Answer}

-- what is printed, and the status
pub record Output : Type 0 where
  pub text : List ℕ
  pub status : Status

-- a text in memory, as such an output
abbrev pub output_of : Answer → Output
output_of answer = record { text = answer.text.items; status = answer.status }

-- a write failed
abbrev pub IsWrite : ToolFault → Type 0
IsWrite (Write written) = ⊤
IsWrite _ = ⊥

-- the inputs decided how it ended: no memory was refused, and no read failed
abbrev pub IsDecided : {T : Type 0} → Result T ToolFault → Type 0
IsDecided (Ok answer) = ⊤
IsDecided (Err (Write written)) = ⊤
IsDecided (Err TooLong) = ⊤
IsDecided (Err Memory) = ⊥
IsDecided (Err Read) = ⊥

-- A write failed: the first `written` bytes of the output's text were written, and not all. `Out`
-- holds of the output, and `Sent` of the bytes that were written.
abbrev pub StopsAt : (Option Output → Type 0) → (List ℕ → Type 0) → ℕ → Type 0
StopsAt Out Sent written = (output : Output)
    × Out (Some output)
    × (written < length output.text)
    × Sent (take written output.text)

-- The same of a text of any length: `written` is the number of these bytes where that is less than
-- 2 ^ 64.
abbrev pub StopsCounting : (Option Output → Type 0) → (List ℕ → Type 0) → ℕ → Type 0
StopsCounting Out Sent written =
    (number : ℕ) × (number < 2 ^ 64 → written ≡ number) × StopsAt Out Sent number

-- What a result reports. `Out` holds of the output, or of none if there is none. `Sent` holds of
-- the bytes that were written. Where the result is a status, the whole text of the output was
-- written, and the status is its status. Where a write failed, `Stops` says what was written. Where
-- an input is too long, there is no output. Refused memory and a failed read report nothing about
-- the output.
abbrev pub EndsBy : ((Option Output → Type 0) → (List ℕ → Type 0) → ℕ → Type 0)
    → (Option Output → Type 0) → (List ℕ → Type 0) → Result Status ToolFault → Type 0
EndsBy Stops Out Sent (Ok status) =
    (output : Output) × Out (Some output) × (status ≡ output.status) × Sent output.text
EndsBy Stops Out Sent (Err (Write written)) = Stops Out Sent written
EndsBy Stops Out Sent (Err TooLong) = Out None
EndsBy Stops Out Sent (Err Memory) = ⊤
EndsBy Stops Out Sent (Err Read) = ⊤

-- This, where the number of bytes that were written is exact.
abbrev pub Ends : (Option Output → Type 0) → (List ℕ → Type 0) → Result Status ToolFault → Type 0
Ends = EndsBy StopsAt

-- And where it is exact if it is less than 2 ^ 64.
abbrev pub EndsCounting : (Option Output → Type 0) → (List ℕ → Type 0) → Result Status ToolFault
    → Type 0
EndsCounting = EndsBy StopsCounting

-- What a call promises that writes an output. `contents` maps a device to the bytes that were
-- written to it, where these are known. `Ended` says what the result reports about these bytes.
module _ {W : Type 0} (contents : W → Option (List ℕ))
    (Ended : (List ℕ → Type 0) → Result Status ToolFault → Type 0) where
  -- No input is read: if an error isn't a failed write, it is `Memory`, and nothing was written.
  pub record Writes (old new : Device W) (result : Result Status ToolFault) : Type 0 where
    pub ends : Ended (Appends (contents old.device) (contents new.device)) result
    pub nothing : IfErr result (λ e. IsWrite e ⊎ ((e ≡ Memory) × (new ≡ old)))
    pub writes : IsErrAnd result IsWrite ↔ IsTrue new.failed

  -- The answer is about inputs: if an error isn't a failed write, nothing was written.
  pub record Answers (old new : Device W) (result : Result Status ToolFault) : Type 0 where
    pub ends : Ended (Appends (contents old.device) (contents new.device)) result
    pub nothing : IfErr result (λ e. IsWrite e ⊎ (new ≡ old))
    pub writes : IsErrAnd result IsWrite ↔ IsTrue new.failed
