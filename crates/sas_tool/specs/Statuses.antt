-- How the program ends.
use Rattle.std.specs.Prelude.{ℕ, List, codes, Option, Some, None, Result, Ok, Err}
use Rattle.sas_answers.specs.declared.ending.Status.{Status}
use Rattle.sas_answers.specs.declared.ending.Status.TheVariants.{Yes, No}
use Rattle.sas_answers.specs.declared.ending.ToolFault.{ToolFault}
use Rattle.sas_answers.specs.declared.ending.ToolFault.TheVariants.{Memory, Read, TooLong, Write}

-- the exit status
abbrev pub exit_status : Result Status ToolFault → ℕ
exit_status (Ok Yes) = 0
exit_status (Ok No) = 1
exit_status (Err fault) = 3

-- the line on standard error, without its end
abbrev pub error_line : Result Status ToolFault → Option (List ℕ)
error_line (Ok status) = None
error_line (Err Memory) = Some (codes "sas: out of memory")
error_line (Err Read) = Some (codes "sas: read failed")
error_line (Err TooLong) = Some (codes "sas: input too long")
error_line (Err (Write written)) = Some (codes "sas: write failed")
