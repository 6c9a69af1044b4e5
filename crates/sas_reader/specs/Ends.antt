-- Where the first bytes of some bytes end.
use Rattle.std.specs.Prelude.{◌≡◌, ◌⊎◌, ℕ, List, ◌∷◌, ◌++◌}

-- the bytes are the front, then the byte `end`, then the rest; before LF there may be a CR
abbrev pub StandsBefore : List ℕ → ℕ → List ℕ → List ℕ → Type 0
StandsBefore front end rest bytes =
    (bytes ≡ front ++ end ∷ rest) ⊎ ((end ≡ 10) × (bytes ≡ front ++ 13 ∷ 10 ∷ rest))
