-- Each line of reasons begins with two spaces, and holds neither LF nor CR.
use Rattle.sas_requests.proofs.Imports.{◌≡◌, ℕ, true, List, [], ◌∷◌, map, ap, AllByRecursion, Parts, IsName, WellRanged, IsPlain, Line, IsReasonLine, line_bytes, is_reason_line, FileLine, file_line_bytes, is_reason}
use Rattle.sas_requests.proofs.FileReasonLines.{file_lines_are_reasons}

-- the line is one of reasons
pub record IsReason (line : List ℕ) : Type 0 where
  pub plain : IsPlain line
  pub reports : is_reason line ≡ true

abbrev pub AreReasons : List (List ℕ) → Type 0
AreReasons lines = AllByRecursion IsReason lines

one_line : (line : List ℕ) → IsReasonLine line → IsReason line
one_line line is = record { plain = is.plain; reports = ap is_reason is.spaces }

-- the lines of a plan and of a task
pub lines_report : (p : Parts) (steps : List (List ℕ)) → WellRanged p → AllByRecursion IsName steps → (reasons : List Line) → AreReasons (map (line_bytes p steps) reasons)
lines_report p steps ranged names [] = tt
lines_report p steps ranged names (l ∷ reasons) = (one_line (line_bytes p steps l) (is_reason_line p steps l), lines_report p steps ranged names reasons)

-- those of a refused file
pub file_lines_report : (reasons : List FileLine) → AreReasons (map file_line_bytes reasons)
file_lines_report [] = tt
file_lines_report (l ∷ reasons) = (one_line (file_line_bytes l) (file_lines_are_reasons l), file_lines_report reasons)
