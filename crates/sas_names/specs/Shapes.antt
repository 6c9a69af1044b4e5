-- Shapes of names. Names of different shapes differ.
use Rattle.std.specs.Prelude.{ℕ, ◌+◌, ◌-◌, ◌*◌, ◌/◌, ◌%◌, ◌<◌, List, [], length, Bool, false, IsTrue, slice_index_or}

-- the shape of a name: its length, its last byte and the byte in its middle, each modulo 16
unfoldable pub shape_of : List ℕ → ℕ
shape_of name = (length name % 16 * 16 + slice_index_or name (length name - 1) 0 % 16) * 16
    + slice_index_or name (length name / 2) 0 % 16

-- the shape of each of the names is marked
abbrev pub HaveShapes : List (List ℕ) → List Bool → Type 0
HaveShapes names shapes = (k : ℕ) → k < length names
    → IsTrue (slice_index_or shapes (shape_of (slice_index_or names k [])) false)
