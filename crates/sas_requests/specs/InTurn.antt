-- Which plans a run opens: in order, each once, and none after the one at whose fault it ends.
use Rattle.std.specs.Prelude.{◌≡◌, ◌⊎◌, ℕ, zero, suc, ◌<◌, ◌≤◌, List, length, ⊤, Option, Some, None, Result, Ok, Err}
use Rattle.sas_answers.specs.declared.ending.Status.{Status}
use Rattle.sas_answers.specs.declared.ending.ToolFault.TheVariants as tool
use Rattle.sas_requests.specs.Output.{IsLayeredText}
use Rattle.sas_reader.specs.Limit.{most_bytes}
use Rattle.sas_requests.specs.declared.inputs.InputFault.{InputFault}
use Rattle.sas_requests.specs.declared.inputs.InputFault.TheVariants.{NotOpened, Read, TooLong}
use Rattle.sas_requests.specs.declared.inputs.JudgeFault.{JudgeFault}
use Rattle.sas_requests.specs.declared.inputs.JudgeFault.TheVariants.{Tool, Plan}

-- `gives before number given after`: a call of `open` with this number returned `given`, the input
-- or none, and turned the plans `before` into `after`.
module _ {S I : Type 0} (gives : S → ℕ → Option I → S → Type 0) where
  -- the plan with this number was opened
  abbrev pub IsOpened : ℕ → S → S → Type 0
  IsOpened number old new = (input : I) × gives old number (Some input) new

  -- so it was, but where the fault is that it couldn't be
  abbrev pub IsOpenedBut : InputFault → ℕ → S → S → Type 0
  IsOpenedBut NotOpened number old new = gives old number None new
  IsOpenedBut Read number old new = IsOpened number old new
  IsOpenedBut TooLong number old new = IsOpened number old new

  -- the run ended at the plan with this number for this fault
  abbrev pub EndsAt : ℕ → S → S → JudgeFault → Type 0
  EndsAt number old new (Plan other what) = (other ≡ number) × IsOpenedBut what number old new
  EndsAt number old new (Tool why) = (why ≡ tool.Memory) × IsOpened number old new

  -- the first so many plans were opened, in order, each once
  abbrev pub OpensFirst : ℕ → S → S → Type 0
  OpensFirst zero old new = new ≡ old
  OpensFirst (suc count) old new = (before : S)
      × OpensFirst count old before
      × IsOpened count before new

  -- all of so many plans were opened, or none, where the task, if its bytes are known, isn't layered
  abbrev pub OpensAll : Option (List ℕ) → ℕ → S → S → Type 0
  OpensAll task count old new = OpensFirst count old new
      ⊎ (((b : List ℕ) → task ≡ Some b → IsLayeredText b → ⊥) × (new ≡ old))

  -- which of so many plans a run has opened that ends with this result
  abbrev pub OpensInTurn : Option (List ℕ) → ℕ → S → S → Result Status JudgeFault → Type 0
  OpensInTurn task count old new (Ok answer) = OpensAll task count old new
  OpensInTurn task count old new (Err (Tool (tool.Write written))) = OpensAll task count old new
  OpensInTurn task count old new (Err (Plan number what)) = (number < count)
      × (before : S)
      × OpensFirst number old before
      × IsOpenedBut what number before new
  OpensInTurn task count old new (Err (Tool tool.Memory)) =
      (number : ℕ) × (number ≤ count) × OpensFirst number old new
  OpensInTurn task count old new (Err (Tool tool.Read)) = new ≡ old
  OpensInTurn task count old new (Err (Tool tool.TooLong)) = new ≡ old

-- a plan that is reported to be too long is longer than the limit, where its bytes are known
abbrev pub IsRightlyLong : (ℕ → Option (List ℕ)) → JudgeFault → Type 0
IsRightlyLong known (Plan number TooLong) =
    (c : List ℕ) → known number ≡ Some c → most_bytes < length c
IsRightlyLong known _ = ⊤
