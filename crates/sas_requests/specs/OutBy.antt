-- What the program prints, by how much is reported: with the reasons for a no or without, after the
-- trace of a plan's steps or without.
use Rattle.std.specs.Prelude.{◌≡◌, ℕ, Bool, true, false, List, ◌++◌, Option, option_map}
use Rattle.std.specs.Io.KnownBytes.{Appends}
use Rattle.sas_core.specs.declared.parts.Parts.{Parts}
use Rattle.sas_meaning.specs.declared.layered.LayerFault.{LayerFault}
use Rattle.sas_lines.specs.Lines.{text}
use Rattle.sas_plan_reasons.specs.declared.detail.Detail.{Detail}
use Rattle.sas_answers.specs.Ending.{Output}
use Rattle.sas_answers.specs.Answers.{CheckAnswer, MutexAnswer}
use Rattle.sas_task_reasons.specs.WhyLayers.{with_reasons, why_refusal, WhyCheckAnswer, WhyMutexAnswer}
use Rattle.sas_plan_reasons.specs.VerdictBy.{VerdictBy}
use Rattle.sas_requests.specs.FileLine.{FileLine, file_text}
use Rattle.sas_requests.specs.declared.question.Request.{Request}
use Rattle.sas_requests.specs.FileReasons.{RefusalReasons}
use Rattle.sas_requests.specs.Output.{OutOf, plain_refusal}

-- the answer alone; with reasons; after a trace
abbrev pub plain : Detail
plain = record { reasons = false; trace = false }

abbrev pub explained : Detail
explained = record { reasons = true; trace = false }

abbrev pub traced : Detail
traced = record { reasons = false; trace = true }

-- ---- answers about a task

-- to a check of it
abbrev pub CheckBy : (reasons : Bool) → Parts → Output → Type 0
CheckBy true = WhyCheckAnswer
CheckBy false = CheckAnswer

-- about its mutex groups
abbrev pub MutexBy : (reasons : Bool) → Parts → Output → Type 0
MutexBy true = WhyMutexAnswer
MutexBy false = MutexAnswer

-- its refusal for a fault of its layers
abbrev pub layers_by : (reasons : Bool) → Parts → LayerFault → Option Output
layers_by true = why_refusal
layers_by false = plain_refusal

-- ---- outputs

-- an output with reasons after it: `IsOut` holds of the output, `AreReasons` of the reasons
pub record WithReasons (IsOut : Option Output → Type 0) (AreReasons : List FileLine → Type 0)
    (output : Option Output) : Type 0 where
  pub of_read : Option Output
  pub reasons : List FileLine
  pub is_out : IsOut of_read
  pub are_reasons : AreReasons reasons
  pub whole : output ≡ option_map (with_reasons (file_text reasons)) of_read

abbrev pub ReasonedBy : (reasons : Bool) → (Option Output → Type 0) → (List FileLine → Type 0)
    → Option Output → Type 0
ReasonedBy true IsOut AreReasons = WithReasons IsOut AreReasons
ReasonedBy false IsOut AreReasons = IsOut

-- the output about what was read: why a task isn't layered, a mutex group isn't exclusive, or a plan
-- isn't valid
abbrev pub OutOfRead : Detail → Request → List ℕ → List ℕ → Option Output → Type 0
OutOfRead detail = OutOf (CheckBy detail.reasons) (MutexBy detail.reasons) (VerdictBy detail)
    (layers_by detail.reasons)

-- the output of a request: this, and after the refusal of a file the reasons why it is refused
abbrev pub OutBy : Detail → Request → List ℕ → List ℕ → Option Output → Type 0
OutBy detail request b c =
    ReasonedBy detail.reasons (OutOfRead detail request b c) (RefusalReasons request b c)

-- ---- the line of a verdict

-- the bytes are some lines, each ended by LF, and after them this one
abbrev pub EndsInLine : List ℕ → List ℕ → Type 0
EndsInLine bytes line = (front : List (List ℕ)) × (bytes ≡ text front ++ line)

-- the bytes are this line, or after a trace they end in it
abbrev pub SaysLine : (trace : Bool) → List ℕ → List ℕ → Type 0
SaysLine true bytes line = EndsInLine bytes line
SaysLine false bytes line = bytes ≡ line

-- a writer that held the bytes `old` and now holds `new` was given this line: alone, or after a trace
-- as the last one
abbrev pub SendsLine : (trace : Bool) → (old new : Option (List ℕ)) → List ℕ → Type 0
SendsLine true old new line = (sent : List ℕ) × Appends old new sent × EndsInLine sent line
SendsLine false old new line = Appends old new line
