-- Lines of words.
use Rattle.std.specs.Prelude.{ℕ, List, [], ◌∷◌, ◌++◌, map, replicate, decimal}
use Rattle.sas_lines.specs.Spelling.{joined}
use Rattle.sas_answers.specs.declared.words.Word.{Word}
use Rattle.sas_answers.specs.declared.words.Word.TheVariants.{Text, Number, Large, Name}
use Rattle.sas_answers.specs.Shown.{shown_name}
use Rattle.sas_answers.specs.declared.words.Words.{Words}
use Rattle.sas_answers.specs.declared.words.NumberedLine.{NumberedLine}

-- A line: this many spaces, then words with one space between each two. A number is a word; a name
-- comes last, since it may contain spaces.
abbrev pub line : ℕ → List (List ℕ) → List ℕ
line spaces words = replicate spaces 32 ++ joined words

-- the bytes of a word
abbrev pub word_bytes : Word → List ℕ
word_bytes (Text bytes) = bytes.now
word_bytes (Number n) = decimal n
word_bytes (Large n) = decimal n
word_bytes (Name bytes) = shown_name bytes.now

-- a space, and the word
abbrev pub behind_space : Word → List ℕ
behind_space word = 32 ∷ word_bytes word

-- the bytes of such a line
abbrev pub words_line : Words → List ℕ
words_line l = line 0 (l.first.now ∷ map word_bytes l.rest.now)

-- the bytes of a line of a word, three numbers and a name
abbrev pub numbered_line : NumberedLine → List ℕ
numbered_line l =
    line 0 (l.word.now ∷ decimal l.first ∷ decimal l.second ∷ decimal l.third ∷ l.name.now ∷ [])
