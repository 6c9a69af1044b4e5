-- What is known of files before they are opened.
use Rattle.std.specs.Prelude.{ℕ, List, bytes_eq, codes, if◌then◌else◌, Option, Some, None}

-- nothing is known of a file, or that it can't be opened, or that it can, and which bytes it holds
pub data Held : Type 0 where
  unknown : Held
  absent : Held
  holds : List ℕ → Held

-- of an input whose bytes may be known
abbrev pub held_if_known : Option (List ℕ) → Held
held_if_known None = unknown
held_if_known (Some bytes) = holds bytes

-- of the input that a word names: `-` names standard input, which has these bytes left, if that is
-- known, and any other word a file
abbrev pub word_held : (List ℕ → Held) → Option (List ℕ) → List ℕ → Held
word_held held input word = if bytes_eq word (codes "-") then held_if_known input else held word
