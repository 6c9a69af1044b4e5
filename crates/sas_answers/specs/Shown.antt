-- How bytes of a file are shown in an answer.
use Rattle.std.specs.Prelude.{ℕ, ◌/◌, ◌%◌, ◌+◌, ◌==◌, nat_lt, Bool, ◌&&◌, not, if◌then◌else◌}
use Rattle.std.specs.Prelude.{List, [], ◌∷◌, ◌++◌, length, take, flat_map, codes}

-- the hexadecimal digit of a number below 16, in lower case
abbrev pub hex_digit_of : ℕ → ℕ
hex_digit_of n = if nat_lt n 10 then 48 + n else 87 + n

-- a byte as `\x` and two hexadecimal digits
abbrev pub in_digits : ℕ → List ℕ
in_digits b = 92 ∷ 120 ∷ hex_digit_of (b / 16) ∷ hex_digit_of (b % 16) ∷ []

-- whether a byte is shown as it is: from 32 to 126, but for the backslash
abbrev pub is_plain_byte : ℕ → Bool
is_plain_byte b = nat_lt 31 b && nat_lt b 127 && not (b == 92)

-- a byte as it is shown
abbrev pub shown_byte : ℕ → List ℕ
shown_byte b = if is_plain_byte b then b ∷ [] else in_digits b

-- a whole text as it is shown: a space at its end as `\x20`
abbrev pub shown_whole : List ℕ → List ℕ
shown_whole [] = []
shown_whole (b ∷ []) = if b == 32 then in_digits b else shown_byte b
shown_whole (b ∷ next ∷ bytes) = shown_byte b ++ shown_whole (next ∷ bytes)

-- a text as it is shown: its first bytes, at most so many, and ` ..` if more follow
abbrev pub shown : ℕ → List ℕ → List ℕ
shown most text =
    if nat_lt most (length text) then flat_map shown_byte (take most text) ++ codes " .."
    else shown_whole text

-- a name as it is shown
abbrev pub shown_name : List ℕ → List ℕ
shown_name = shown 256
