-- Lists of lines of reasons.
use Rattle.std.specs.Prelude.{◌≡◌, if◌then◌else◌, List, [], ◌∷◌, ◌++◌}
use Rattle.std.specs.List.{list_any}
use Rattle.sas_answers.specs.declared.line.Line.{Line}
use Rattle.sas_answers.specs.Line.{is_same_rule_line}

-- these lines and one more, unless that is a line of a rule and already among them
abbrev pub with_line : List Line → Line → List Line
with_line lines next =
    if list_any (is_same_rule_line next) lines then lines else lines ++ next ∷ []

-- these lines and more lines, added one after another by `with_line`
abbrev pub with_lines : List Line → List Line → List Line
with_lines lines [] = lines
with_lines lines (next ∷ more) = with_lines (with_line lines next) more

-- this line, followed by lines for which `AreLines` holds
abbrev pub LineThen : Line → (List Line → Type 0) → List Line → Type 0
LineThen first AreLines lines = (behind : List Line) × AreLines behind × (lines ≡ first ∷ behind)

-- the lines of all items, one after another
abbrev pub LinesOfEach : {A : Type 0} → (A → List Line → Type 0) → List A → List Line → Type 0
LinesOfEach AreLines [] lines = lines ≡ []
LinesOfEach AreLines (item ∷ items) lines = (its others : List Line)
    × AreLines item its
    × LinesOfEach AreLines items others
    × (lines ≡ its ++ others)
