-- The segments of bytes between separators.
use Rattle.std.specs.Prelude.{ℕ, ◌==◌, if◌then◌else◌, List, [], ◌∷◌}

-- prepends the byte to the first segment
abbrev pub onto_first : ℕ → List (List ℕ) → List (List ℕ)
onto_first byte [] = (byte ∷ []) ∷ []
onto_first byte (segment ∷ segments) = (byte ∷ segment) ∷ segments

-- The segments of the bytes before, between and after the separators, in order: k separators give
-- k + 1 segments, some of which may be empty. Split at spaces, `a  b` has the segments `a`, the
-- empty one and `b`.
unfoldable pub segments : ℕ → List ℕ → List (List ℕ)
segments separator [] = [] ∷ []
segments separator (byte ∷ bytes) =
    if byte == separator then [] ∷ segments separator bytes
    else onto_first byte (segments separator bytes)
