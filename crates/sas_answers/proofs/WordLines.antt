-- The bytes of a line of words, one word after another.
use Rattle.sas_answers.proofs.Imports.{◌≡◌, ℕ, List, [], ◌∷◌, ◌++◌, map, flat_map, append-nil, append_assoc, ap, ◌∙◌, joined, Word, Words, word_bytes, behind_space, words_line}

-- the words behind the first one have a space in front of each
joined_is : (first : List ℕ) (words : List Word) → first ++ flat_map behind_space words ≡ joined (first ∷ map word_bytes words)
joined_is first [] = append-nil first
joined_is first (word ∷ words) = ap (λ (l : List ℕ). first ++ 32 ∷ l) (joined_is (word_bytes word) words)

-- a line of words, with its end
pub line_is : (l : Words) → (l.first.now ++ flat_map behind_space l.rest.now) ++ 10 ∷ [] ≡ words_line l ++ 10 ∷ []
line_is l = ap (λ (b : List ℕ). b ++ 10 ∷ []) (joined_is l.first.now l.rest.now)

-- and so of a word, three numbers and a name
pub numbered_is : (word first second third name : List ℕ)
    → (((word ++ 32 ∷ first) ++ 32 ∷ second) ++ 32 ∷ third) ++ 32 ∷ name ≡ word ++ 32 ∷ (first ++ 32 ∷ (second ++ 32 ∷ (third ++ 32 ∷ name)))
numbered_is word first second third name =
    append_assoc ((word ++ 32 ∷ first) ++ 32 ∷ second) (32 ∷ third) (32 ∷ name)
    ∙ append_assoc (word ++ 32 ∷ first) (32 ∷ second) (32 ∷ third ++ 32 ∷ name)
    ∙ append_assoc word (32 ∷ first) (32 ∷ second ++ 32 ∷ (third ++ 32 ∷ name))
