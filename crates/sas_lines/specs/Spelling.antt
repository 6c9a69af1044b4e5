-- How numbers are written, alone and several on a line. `decimal n` is a single digit for n below
-- 10, else `decimal (n / 10)` followed by the digit of n % 10.
use Rattle.std.specs.Prelude.{ℕ, List, [], ◌∷◌, ◌++◌, Option, Some, None, codes}
use Rattle.std.specs.Fmt.{decimal}

-- a signed number as bytes; `-1` stands for none
abbrev pub signed_decimal : Option ℕ → List ℕ
signed_decimal None = codes "-1"
signed_decimal (Some n) = decimal n

-- words separated by single spaces
abbrev pub joined : List (List ℕ) → List ℕ
joined [] = []
joined (word ∷ []) = word
joined (word ∷ next ∷ words) = word ++ 32 ∷ joined (next ∷ words)
