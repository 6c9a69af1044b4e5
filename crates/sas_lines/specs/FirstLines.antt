-- The first lines of some bytes.
use Rattle.std.specs.Prelude.{◌≡◌, ℕ, ◌+◌, ◌≤◌, Bool, true, false, List, [], ◌∷◌, ◌++◌, length, take, ◌≢◌, ◌⊎◌}
use Rattle.sas_lines.specs.Lines.{lines, unfinished}
use Rattle.std.specs.List.{AllByRecursion}

-- the bytes contain no LF
abbrev pub NoEnd : List ℕ → Type 0
NoEnd bytes = AllByRecursion (λ b. b ≢ 10) bytes

-- the bytes are these lines, each ended by LF or CR LF, followed by the rest
abbrev pub EndedLines : List (List ℕ) → List ℕ → List ℕ → Type 0
EndedLines [] rest bytes = bytes ≡ rest
EndedLines (line ∷ more) rest bytes = (behind : List ℕ)
    × ((bytes ≡ line ++ 10 ∷ behind) ⊎ (bytes ≡ line ++ 13 ∷ 10 ∷ behind))
    × EndedLines more rest behind

-- The bytes are these lines and the rest, all without LF. Each line has its line end: CR LF where a
-- CR stands before the LF, else LF.
abbrev pub AreLines : List (List ℕ) → List ℕ → List ℕ → Type 0
AreLines [] rest bytes = (bytes ≡ rest) × NoEnd rest
AreLines (line ∷ more) rest bytes = (behind : List ℕ) × NoEnd line
    × (((bytes ≡ line ++ 10 ∷ behind) × ((front : List ℕ) → line ≢ front ++ 13 ∷ []))
    ⊎ (bytes ≡ line ++ 13 ∷ 10 ∷ behind))
    × AreLines more rest behind

-- laws: any bytes are their complete lines and their rest, and no other lines and rest
abbrev pub BytesAreLines : Type 0
BytesAreLines = (bytes : List ℕ) → AreLines (lines bytes) (unfinished bytes) bytes

abbrev pub BytesAreNoOtherLines : Type 0
BytesAreNoOtherLines = (bytes : List ℕ) (others : List (List ℕ)) (rest : List ℕ)
    → AreLines others rest bytes → (others ≡ lines bytes) × (rest ≡ unfinished bytes)

-- the bytes taken are those up to and including the first LF, or all if there is none
abbrev pub TakesLine : List ℕ → ℕ → Bool → Type 0
TakesLine piece taken true = (front rest : List ℕ)
    × NoEnd front × (piece ≡ front ++ 10 ∷ rest) × (taken ≡ length front + 1)
TakesLine piece taken false = NoEnd piece × (taken ≡ length piece)

-- the first line of the bytes, which takes n bytes including its line end
pub record LineStandsFirst (bytes first : List ℕ) (n : ℕ) : Type 0 where
  -- the n bytes end with the first LF
  pub taken : TakesLine bytes n true
  -- they are this line and its line end
  pub line : lines (take n bytes) ≡ first ∷ []
  pub rest : unfinished (take n bytes) ≡ []

-- the first lines of the bytes, which take n bytes including their line ends
pub record LinesStandFirst (bytes : List ℕ) (first : List (List ℕ)) (n : ℕ) : Type 0 where
  pub within : n ≤ length bytes
  pub lines : lines (take n bytes) ≡ first
  pub rest : unfinished (take n bytes) ≡ []
