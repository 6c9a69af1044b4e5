-- Parsing a line of a task file word by word: the words before a step of the code, and the rest
-- after it.
use Rattle.std.specs.Prelude.{◌≡◌, ℕ, List, ◌∷◌, ◌++◌, length, Option}
use Rattle.std.specs.List.{flat_map, AllByRecursion}
use Rattle.std.specs.Fmt.{decimal}
use Rattle.sas_core.specs.declared.parts.Fact.{Fact}
use Rattle.sas_core.specs.Numbers.{IsNumber, IsSigned}
use Rattle.sas_lines.specs.Spelling.{signed_decimal}
use Rattle.sas_task_file.specs.TaskFormat.{TaskLine, task_line_bytes, TaskLineFits, fact_words, head_words, FactNumbers, HeadNumbers}

-- the bytes are those of this line, whose numbers a file can spell
abbrev pub Spells : TaskLine → List ℕ → Type 0
Spells i bytes = TaskLineFits i × (task_line_bytes i ≡ bytes)

-- the words are a number and the rest
abbrev pub TakesNumber : List (List ℕ) → ℕ → List (List ℕ) → Type 0
TakesNumber words n rest = IsNumber n × (words ≡ decimal n ∷ rest)

-- the words are a number, or `-1` for none, and the rest
abbrev pub TakesSigned : List (List ℕ) → Option ℕ → List (List ℕ) → Type 0
TakesSigned words n rest = IsSigned n × (words ≡ signed_decimal n ∷ rest)

-- the words are a fact and the rest
abbrev pub TakesFact : List (List ℕ) → Fact → List (List ℕ) → Type 0
TakesFact words f rest = FactNumbers f × (words ≡ fact_words f ++ rest)

-- the words are `count` facts and the rest
pub record TakesFacts (words : List (List ℕ)) (count : ℕ) (facts : List Fact)
    (rest : List (List ℕ)) : Type 0 where
  pub many : length facts ≡ count
  pub numbers : AllByRecursion FactNumbers facts
  pub before : words ≡ flat_map fact_words facts ++ rest

-- the words are a variable, its old value or none, its new value, and the rest
abbrev pub TakesHead : List (List ℕ) → ℕ → Option ℕ → ℕ → List (List ℕ) → Type 0
TakesHead words var old new rest = HeadNumbers var old new
    × (words ≡ head_words var old new ++ rest)
