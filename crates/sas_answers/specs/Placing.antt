-- Bytes that are written over a part of others.
use Rattle.std.specs.Prelude.{◌≡◌, ℕ, ◌≤◌, List, ◌++◌, length, take, Option, MatchOption}

-- The first bytes, up to `at`, stay, these follow them, and end here.
pub record Places (old new : List ℕ) (at : ℕ) (bytes : List ℕ) (end : ℕ) : Type 0 where
  pub front : take end new ≡ take at old ++ bytes
  pub within : end ≤ length new

-- What a call returns that places these bytes, or lacks the room for them. The first bytes stay in
-- either case.
pub record PlacesOrLeaves (old new : List ℕ) (at : ℕ) (bytes : List ℕ) (result : Option ℕ)
    : Type 0 where
  pub as_long : length new ≡ length old
  pub places : MatchOption result (take at new ≡ take at old) (λ end. Places old new at bytes end)
