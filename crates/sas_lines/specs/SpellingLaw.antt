-- What `decimal` is, as a plain recursion.
use Rattle.std.specs.Prelude.{◌≡◌, ℕ, ◌+◌, ◌/◌, ◌%◌, ◌^◌, ◌<◌, ◌≤◌, [], ◌∷◌, ◌++◌}
use Rattle.std.specs.Fmt.{decimal}

-- for each number below 10 ^ 39: a digit if the number is below 10, else the decimal of a tenth
-- followed by a digit
abbrev pub SpellingIsDecimal : Type 0
SpellingIsDecimal =
    ((n : ℕ) → n < 10 → decimal n ≡ (48 + n) ∷ [])
    × ((n : ℕ) → 10 ≤ n → n < 10 ^ 39 → decimal n ≡ decimal (n / 10) ++ (48 + n % 10) ∷ [])
