-- What is kept of the text at a fault.
use Rattle.std.specs.Prelude.{◌≡◌, ◌↔◌, ℕ, ◌-◌, ◌==◌, Bool, true, false, ◌&&◌, ◌||◌, IsTrue, List, [], ◌∷◌, ◌++◌, length, take, codes}
use Rattle.std.specs.List.{list_any}
use Rattle.std.specs.Str.{str_eq_ignore_ascii_case}
use Rattle.sas_core.specs.Names.{IsName}
use Rattle.sas_lines.specs.Lines.{without_return}
use Rattle.sas_reader.specs.declared.fault.Kind.{Kind}
use Rattle.sas_reader.specs.declared.found.Excerpt.{Excerpt}
use Rattle.sas_reader.specs.Faults.{is_keyword, is_of_name, is_end}

-- the byte occurs in the text
abbrev pub has_byte : ℕ → List ℕ → Bool
has_byte byte text = list_any (λ b. b == byte) text

-- the word occurs in the text, in any case
abbrev pub has_word : List ℕ → List ℕ → Bool
has_word word [] = false
has_word word (b ∷ text) =
    str_eq_ignore_ascii_case (take (length word) (b ∷ text)) word || has_word word text

-- a CR occurs in the text with a byte behind it
abbrev pub has_inner_return : List ℕ → Bool
has_inner_return text = has_byte 13 (take (length text - 1) text)

-- the rest of a line, after an opening parenthesis, is this name and the closing one
abbrev pub Names : List ℕ → List ℕ → Type 0
Names rest name = IsName name × (rest ≡ name ++ codes ")")

-- the line is a name in parentheses
abbrev pub IsEnclosed : List ℕ → Type 0
IsEnclosed line = (name : List ℕ) × IsName name × (line ≡ codes "(" ++ (name ++ codes ")"))

-- What is kept of a text: its first bytes, one more than are shown, and what hints ask of all of it.
pub record Kept : Type 0 where
  pub front : List ℕ
  pub cost : Bool
  pub semicolon : Bool
  pub inner_return : Bool

-- a text at a fault of this kind; each question is asked for one kind
abbrev pub kept_of : Kind → List ℕ → Kept
kept_of kind text = record {
  front = take 65 text;
  cost = is_keyword kind && has_word (codes "cost") text;
  semicolon = is_of_name kind && has_byte 59 text;
  inner_return = is_end kind && has_inner_return text;
}

-- the bytes that an excerpt has, and all that it has
abbrev pub kept_bytes : Excerpt → List ℕ
kept_bytes found = take found.count found.bytes

abbrev pub kept_in : Excerpt → Kept
kept_in found = record {
  front = kept_bytes found;
  cost = found.cost;
  semicolon = found.semicolon;
  inner_return = found.inner_return;
}

-- The excerpt has this of the text at a fault of this kind, and at an early end whether the rest is
-- a name in parentheses.
pub record IsFoundOf (kind : Kind) (text : List ℕ) (found : Excerpt) : Type 0 where
  pub kept : kept_in found ≡ kept_of kind text
  pub enclosed : IsTrue (is_end kind) → IsTrue found.enclosed ↔ IsEnclosed (without_return text)
