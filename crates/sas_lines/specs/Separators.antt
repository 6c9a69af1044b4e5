-- Where bytes have a separator.
use Rattle.std.specs.Prelude.{◌≡◌, ◌≢◌, ℕ, ◌<◌, Option, Some, None, List, [], length, take, slice_index}
use Rattle.std.specs.List.{AllByRecursion}
use Rattle.std.specs.Borrow.{Bor}
use Rattle.sas_lines.specs.Segments.{segments}

-- no byte is the separator
abbrev pub Without : ℕ → List ℕ → Type 0
Without separator bytes = AllByRecursion (λ b. b ≢ separator) bytes

-- the first separator has this index
pub record StandsFirst (separator : ℕ) (bytes : List ℕ) (place : ℕ) : Type 0 where
  pub within : place < length bytes
  pub before : Without separator (take place bytes)
  pub here : slice_index bytes place ≡ separator

-- the segments of optional bytes; no bytes have no segments
abbrev pub segments_within : ℕ → Option (Bor (List ℕ)) → List (List ℕ)
segments_within separator None = []
segments_within separator (Some bytes) = segments separator bytes.now
