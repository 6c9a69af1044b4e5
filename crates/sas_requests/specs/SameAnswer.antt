-- Reasons and traces are added to an answer, and don't change it.
use Rattle.std.specs.Prelude.{◌≡◌, ℕ, Bool, true, false, not, List, ◌++◌, take, filter, bytes_eq, codes, Some}
use Rattle.sas_lines.specs.Lines.{text, lines}
use Rattle.sas_answers.specs.declared.ending.Status.TheVariants.{Yes, No}
use Rattle.sas_answers.specs.Ending.{Output}
use Rattle.sas_requests.specs.declared.question.Request.{Request}
use Rattle.sas_requests.specs.declared.question.Request.TheVariants.{Plan}
use Rattle.sas_requests.specs.OutBy.{OutBy}

-- whether a line is a reason: whether it begins with two spaces
abbrev pub is_reason : List ℕ → Bool
is_reason line = bytes_eq (take 2 line) (codes "  ")

-- the lines of a text but for its reasons, each ended by LF
abbrev pub without_reasons : List ℕ → List ℕ
without_reasons bytes = text (filter (λ line. not (is_reason line)) (lines bytes))

-- The output with reasons is the same answer as this one: it has the same status, where that is yes
-- the same text, and where it is no the text that is left is the same when the reasons are taken
-- away.
pub record IsSameAnswer (plain why : Output) : Type 0 where
  pub status : why.status ≡ plain.status
  pub yes : plain.status ≡ Yes → why.text ≡ plain.text
  pub no : plain.status ≡ No → without_reasons why.text ≡ plain.text

-- the law that each output with reasons is the same answer as the one without
abbrev pub SameAnswer : Type 0
SameAnswer = (trace : Bool) (request : Request) (b c : List ℕ) (why : Output)
    → OutBy (record { reasons = true; trace = trace }) request b c (Some why)
    → (plain : Output) × OutBy (record { reasons = false; trace = trace }) request b c (Some plain)
    × IsSameAnswer plain why

-- the law that the output of `plan` for the same inputs follows the trace, with the same status
abbrev pub EndsAsPlan : Type 0
EndsAsPlan = (reasons : Bool) (b c : List ℕ) (traced : Output)
    → OutBy (record { reasons = reasons; trace = true }) Plan b c (Some traced)
    → (untraced : Output)
    × OutBy (record { reasons = reasons; trace = false }) Plan b c (Some untraced)
    × (front : List (List ℕ))
    × (traced.text ≡ text front ++ untraced.text)
    × (traced.status ≡ untraced.status)
