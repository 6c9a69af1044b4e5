-- How a run over files ends, and what it writes to standard error.
use Rattle.std.specs.Prelude.{◌≡◌, ◌++◌, ℕ, Bool, true, false, ◌&&◌, if◌then◌else◌, List, [], codes, Option, Some, None, Err}
use Rattle.std.specs.Io.KnownBytes.{Appends}
use Rattle.sas_lines.specs.Device.{Device}
use Rattle.sas_answers.specs.Shown.{shown_name}
use Rattle.sas_answers.specs.declared.ending.ToolFault.TheVariants.{Read, TooLong}
use Rattle.sas_tool.specs.Sources.{source_name}
use Rattle.sas_tool.specs.Statuses.{error_line, exit_status}
use Rattle.sas_tool.specs.declared.arguments.Source.{Source}
use Rattle.sas_tool.specs.declared.endings.Ended.{Ended}
use Rattle.sas_tool.specs.declared.endings.Ended.TheVariants as ended

abbrev pub status_of : Ended → ℕ
status_of (ended.Answered result) = exit_status result
status_of _ = 3

-- the line on standard error, without its end
abbrev pub line_of : Ended → Option (List ℕ)
line_of ended.NotReady = Some (codes "sas: cannot open /dev/null")
line_of ended.TaskNotOpened = Some (codes "sas: cannot open the task")
line_of ended.PlanNotOpened = Some (codes "sas: cannot open the plan")
line_of (ended.Answered result) = error_line result

-- whether that line is about an input
abbrev pub is_about_input : Ended → Bool
is_about_input ended.TaskNotOpened = true
is_about_input ended.PlanNotOpened = true
is_about_input (ended.Answered (Err Read)) = true
is_about_input (ended.Answered (Err TooLong)) = true
is_about_input _ = false

-- the line with the name of an input, and nothing where there is none
abbrev pub name_text : Option Source → List ℕ
name_text None = []
name_text (Some source) = codes "  " ++ shown_name (source_name source) ++ codes "\n"

-- what stands on standard error: nothing, or the line, and with reasons the name of the input that
-- it is about
abbrev pub text_of : Option (List ℕ) → Bool → Option Source → List ℕ
text_of None about source = []
text_of (Some line) about source =
    (line ++ codes "\n") ++ (if about then name_text source else [])

abbrev pub error_text : Ended → Bool → Option Source → List ℕ
error_text end why last = text_of (line_of end) (why && is_about_input end) last

-- unless a write has failed, exactly this text was written
abbrev pub Puts : {W : Type 0} → (W → Option (List ℕ)) → List ℕ → Device W → Device W → Type 0
Puts contents text old new = new.failed ≡ false
    → (old.failed ≡ false) × Appends (contents old.device) (contents new.device) text
