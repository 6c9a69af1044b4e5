-- What the program does at a call over a task, a plan or both.
use Rattle.std.specs.Prelude.{◌≡◌, ◌⊎◌, ◌++◌, ⊤, ℕ, List, [], ◌∷◌, codes, Option, Result, Err, IfOk}
use Rattle.std.specs.Result.{IsOkAnd}
use Rattle.sas_answers.specs.declared.ending.ToolFault.TheVariants.{Read, TooLong}
use Rattle.sas_words.specs.declared.calls.WordsFault.{WordsFault}
use Rattle.sas_words.specs.declared.calls.WordsFault.TheVariants as fault
use Rattle.sas_requests.specs.declared.question.Question.{Question}
use Rattle.sas_tool.specs.Endings.{error_text, status_of}
use Rattle.sas_tool.specs.Held.{Held, holds, word_held}
use Rattle.sas_tool.specs.Sources.{IsSource}
use Rattle.sas_tool.specs.Runs.{Ran}
use Rattle.sas_tool.specs.declared.arguments.Source.{Source}
use Rattle.sas_tool.specs.declared.endings.Ended.{Ended}
use Rattle.sas_tool.specs.declared.endings.Ended.TheVariants as ended

-- what is known of the input that the first word names; where there is no word, nothing is read
abbrev pub words_held : (List ℕ → Held) → Option (List ℕ) → List (List ℕ) → Held
words_held held input [] = holds []
words_held held input (word ∷ more) = word_held held input word

-- the input that standard error names, if its line is about one: what can't be opened, or the task or
-- the plan, if it can't be read or is too long
abbrev pub IsLast : List (List ℕ) → List (List ℕ) → Ended → Option Source → Type 0
IsLast task plan ended.TaskNotOpened last = IsSource task last
IsLast task plan ended.PlanNotOpened last = IsSource plan last
IsLast task plan (ended.Answered (Err Read)) last = IsSource task last ⊎ IsSource plan last
IsLast task plan (ended.Answered (Err TooLong)) last = IsSource task last ⊎ IsSource plan last
IsLast task plan _ last = ⊤

-- The program ended with this status. These words name the task and the plan, of which this is
-- known. A writer that held the bytes `old` holds `new`, if these are known. If nothing was written,
-- `Same` holds. `Put` holds of what was written to standard error.
pub record Does (question : Question) (held : List (List ℕ) → Held) (task plan : List (List ℕ))
    (old new : Option (List ℕ)) (Same : Type 0) (Put : List ℕ → Type 0) (status : ℕ) : Type 0 where
  pub end : Ended
  pub last : Option Source
  pub ran : Ran question (held task) (held plan) old new Same end
  pub whose : IsLast task plan end last
  pub ends : status ≡ status_of end
  pub put : Put (error_text end question.detail.reasons last)

-- The exit status and what was written to standard error where memory was refused, and where two
-- files are standard input.
abbrev pub IsStarved : (List ℕ → Type 0) → ℕ → Type 0
IsStarved Put status = (status ≡ 3) × Put (codes "sas: out of memory" ++ codes "\n")

abbrev pub IsTwice : (List ℕ → Type 0) → ℕ → Type 0
IsTwice Put status = (status ≡ 2) × Put (codes "sas: standard input used twice" ++ codes "\n")

abbrev pub IsUnanswered : (List ℕ → Type 0) → ℕ → Type 0
IsUnanswered Put status = IsStarved Put status ⊎ IsTwice Put status

-- what the program does where a call has no job
abbrev pub Refuses : (List ℕ → Type 0) → Result ℕ WordsFault → WordsFault → Type 0
Refuses Put result fault.Memory = IsOkAnd result (IsStarved Put)
Refuses Put result fault.InputTwice = IsOkAnd result (IsTwice Put)
Refuses Put result _ = IfOk result (λ status. ⊥)
