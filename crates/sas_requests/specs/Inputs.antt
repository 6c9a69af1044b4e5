-- What is known of plans that are opened one after another.
use Rattle.std.specs.Prelude.{◌≡◌, ℕ, ◌<◌, List, [], length, slice_index_or, Option, Some, Result, Ok, Err}
use Rattle.std.specs.Io.KnownBytes.{Consumes}
use Rattle.sas_core.specs.Plain.{IsPlain}
use Rattle.sas_answers.specs.declared.ending.ToolFault.{ToolFault}
use Rattle.sas_answers.specs.declared.ending.ToolFault.TheVariants as tool
use Rattle.sas_requests.specs.declared.inputs.InputFault.TheVariants.{NotOpened, Read, TooLong}
use Rattle.sas_requests.specs.declared.inputs.JudgeFault.{JudgeFault}
use Rattle.sas_requests.specs.declared.inputs.JudgeFault.TheVariants.{Tool, Plan}

-- a label ends no line
abbrev pub IsLabel : List ℕ → Type 0
IsLabel label = IsPlain label

-- these bytes were read of an input: where its bytes are known, they begin with them
abbrev pub WasRead : Option (List ℕ) → List ℕ → Type 0
WasRead known c = (left : Option (List ℕ)) × Consumes known left c

-- the plan with each of these numbers has these bytes
abbrev pub HaveBytes : (ℕ → Option (List ℕ)) → ℕ → List (List ℕ) → Type 0
HaveBytes known count cs = (length cs ≡ count)
    × ((number : ℕ) → number < count → known number ≡ Some (slice_index_or cs number []))

-- these bytes were read of it
abbrev pub WereRead : (ℕ → Option (List ℕ)) → ℕ → List (List ℕ) → Type 0
WereRead known count cs = (length cs ≡ count)
    × ((number : ℕ) → number < count → WasRead (known number) (slice_index_or cs number []))

-- the fault as one of a run over two files: that of a plan without its number
abbrev pub tool_fault : JudgeFault → ToolFault
tool_fault (Tool fault) = fault
tool_fault (Plan number NotOpened) = tool.Read
tool_fault (Plan number Read) = tool.Read
tool_fault (Plan number TooLong) = tool.TooLong

abbrev pub tool_result : {A : Type 0} → Result A JudgeFault → Result A ToolFault
tool_result (Ok a) = Ok a
tool_result (Err fault) = Err (tool_fault fault)

-- and the other way round
abbrev pub judge_result : {A : Type 0} → Result A ToolFault → Result A JudgeFault
judge_result (Ok a) = Ok a
judge_result (Err fault) = Err (Tool fault)
