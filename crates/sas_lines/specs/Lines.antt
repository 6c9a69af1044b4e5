-- Lines: any bytes are a sequence of complete lines, each with its line end, and a rest without LF.
-- The bytes `one LF two CR LF three` are the lines `one` and `two` and the rest `three`.
use Rattle.std.specs.Prelude.{ℕ, ◌==◌, not, if◌then◌else◌, List, [], ◌∷◌, ◌++◌}
use Rattle.std.specs.List.{flat_map, filter}
use Rattle.sas_lines.specs.Segments.{segments}

-- a line without its line end, given the bytes before its LF: a CR directly before the LF is part
-- of the line end
abbrev pub without_return : List ℕ → List ℕ
without_return [] = []
without_return (b ∷ []) = if b == 13 then [] else b ∷ []
without_return (b ∷ c ∷ bytes) = b ∷ without_return (c ∷ bytes)

-- each segment except the last is a line
abbrev pub lines_among : List (List ℕ) → List (List ℕ)
lines_among [] = []
lines_among (segment ∷ []) = []
lines_among (segment ∷ next ∷ segments) =
    without_return segment ∷ lines_among (next ∷ segments)

-- the last segment is the rest
abbrev pub rest_among : List (List ℕ) → List ℕ
rest_among [] = []
rest_among (segment ∷ []) = segment
rest_among (segment ∷ next ∷ segments) = rest_among (next ∷ segments)

-- the complete lines, each without its line end (LF, or CR LF)
unfoldable pub lines : List ℕ → List (List ℕ)
lines bytes = lines_among (segments 10 bytes)

-- the bytes after the last LF
unfoldable pub unfinished : List ℕ → List ℕ
unfinished bytes = rest_among (segments 10 bytes)

-- the lines, each ended by LF
abbrev pub text : List (List ℕ) → List ℕ
text lines = flat_map (λ line. line ++ 10 ∷ []) lines

-- the bytes without CRs
abbrev pub without_returns : List ℕ → List ℕ
without_returns bytes = filter (λ b. not (b == 13)) bytes
