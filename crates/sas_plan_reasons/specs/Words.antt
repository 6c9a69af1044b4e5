-- The words of names.
use Rattle.std.specs.Prelude.{ℕ, ◌==◌, Bool, not, List, ◌∷◌, ◌++◌, length, map, filter, codes, bytes_eq}
use Rattle.std.specs.Char.{to_ascii_lowercase}
use Rattle.std.specs.List.{slice_split, list_any, list_all, count_by}

-- whether the byte separates words: a tab, a space, or one of the others
abbrev pub separates : ℕ → Bool
separates byte = list_any (λ separator. byte == separator) (9 ∷ codes " -_(),")

-- the parts of a text between separators that aren't empty
abbrev pub parts : List ℕ → List (List ℕ)
parts text = filter (λ part. not (length part == 0)) (slice_split separates text)

-- the words of a name: its parts, with A to Z in lower case
abbrev pub words : List ℕ → List (List ℕ)
words name = parts (map to_ascii_lowercase name)

-- whether these are the same words in some order: each is among both equally often
abbrev pub are_permuted : List (List ℕ) → List (List ℕ) → Bool
are_permuted a b =
    list_all (λ word. count_by (bytes_eq word) a == count_by (bytes_eq word) b) (a ++ b)
