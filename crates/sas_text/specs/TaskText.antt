-- The text of lines of a task file.
use Rattle.std.specs.Prelude.{ℕ, List, [], ◌∷◌, ◌++◌, map}
use Rattle.std.specs.List.{flat_map}
use Rattle.sas_lines.specs.Lines.{text}
use Rattle.sas_task_file.specs.TaskFormat.{TaskLine, task_line_bytes}

-- the bytes of the lines, each ended by LF
abbrev pub text_of : List TaskLine → List ℕ
text_of lines = text (map task_line_bytes lines)

-- words on a line, each followed by a space
abbrev pub spaced : List (List ℕ) → List ℕ
spaced words = flat_map (λ word. word ++ 32 ∷ []) words
