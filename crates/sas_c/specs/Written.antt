-- What a run has written that answers into memory.
use Rattle.std.specs.Prelude.{◌≡◌, ℕ, List, Option, Some, None, Result, Ok, Err}
use Rattle.sas_answers.specs.declared.ending.Status.{Status}
use Rattle.sas_answers.specs.declared.ending.ToolFault.{ToolFault}
use Rattle.sas_answers.specs.declared.ending.ToolFault.TheVariants.{TooLong}
use Rattle.sas_answers.specs.Ending.{Output}

-- the output of a run that has written this text, and ended so; there is none where it says so
abbrev pub IsWritten : List ℕ → Result Status ToolFault → Option Output → Type 0
IsWritten text (Ok status) output = output ≡ Some (record { text = text; status = status })
IsWritten text (Err why) output = (why ≡ TooLong) × (output ≡ None)
