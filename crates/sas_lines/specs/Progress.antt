-- The value of `Lines` in contracts.
use Rattle.std.specs.Prelude.{ℕ, Bool, true, false, List, [], ◌∷◌}

-- the line that the last feed completed, if any, and the bytes since the last LF
pub record Progress : Type 0 where
  pub line : List ℕ
  pub pending : List ℕ

-- the lines that a feed completed: one or none
abbrev pub completed : Bool → List ℕ → List (List ℕ)
completed true line = line ∷ []
completed false line = []
