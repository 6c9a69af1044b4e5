-- What the code parses from the first line, or the first lines, of some bytes, with their ends.
use Rattle.std.specs.Prelude.{ℕ, List, [], ◌∷◌, Option, IsTrue, ◌≡◌, Bool, ◌++◌, length}
use Rattle.std.specs.Fmt.{decimal}
use Rattle.sas_core.specs.Numbers.{IsNumber, IsSigned}
use Rattle.sas_lines.specs.FirstLines.{EndedLines}
use Rattle.sas_lines.specs.Spelling.{signed_decimal, joined}
use Rattle.sas_core.specs.Plain.{IsPlain}
use Rattle.sas_reader.specs.Ends.{StandsBefore}
use Rattle.sas_task_file.specs.TaskFormat.{TaskLine, effect, task_line_bytes, TaskLineFits, fact_words, head_words, FactNumbers, HeadNumbers, name, number, fact, single_line}
use Rattle.sas_core.specs.declared.grounded.Change.{Change}
use Rattle.sas_core.specs.declared.parts.Fact.{Fact}
use Rattle.sas_core.specs.declared.parts.Effect.{Effect}
use Rattle.sas_task_file.specs.TaskRanges.{effect_in_ranges, fact_in_ranges}
use Rattle.std.specs.List.{flat_map, list_all, AllByRecursion}
use Rattle.sas_core.specs.Names.{is_name}
use Rattle.sas_task_file.specs.Sections.{spelled}

-- the bytes are this line, whose numbers a file can spell, then its end, then the rest
pub record LineAhead (i : TaskLine) (bytes rest : List ℕ) : Type 0 where
  pub fits : TaskLineFits i
  pub plain : IsPlain (task_line_bytes i)
  pub before : EndedLines (task_line_bytes i ∷ []) rest bytes

-- the bytes are a number, then the byte `end`, then the rest
abbrev pub NumberAhead : List ℕ → ℕ → ℕ → List ℕ → Type 0
NumberAhead bytes n end rest = IsNumber n × StandsBefore (decimal n) end rest bytes

-- the bytes are a number, or `-1` for none, then the byte `end`, then the rest
abbrev pub SignedAhead : List ℕ → Option ℕ → ℕ → List ℕ → Type 0
SignedAhead bytes n end rest = IsSigned n × StandsBefore (signed_decimal n) end rest bytes

-- the bytes are a fact, then the byte `end`, then the rest
abbrev pub FactAhead : List ℕ → Fact → ℕ → List ℕ → Type 0
FactAhead bytes f end rest = FactNumbers f × StandsBefore (joined (fact_words f)) end rest bytes

-- the bytes are a change, then a line end, then the rest
abbrev pub ChangeAhead : List ℕ → Change → List ℕ → Type 0
ChangeAhead bytes c rest = HeadNumbers c.var c.old c.new
    × StandsBefore (joined (head_words c.var c.old c.new)) 10 rest bytes

-- the bytes are an effect whose facts exist, then a line end, then the rest
abbrev pub EffectAhead : List ℕ → List ℕ → Effect → List ℕ → Type 0
EffectAhead ranges bytes e rest = IsTrue (effect_in_ranges ranges e)
    × LineAhead (effect e) bytes rest

-- the bytes are these lines, whose numbers a file can spell, each with its end, and then the rest
pub record LinesBefore (items : List TaskLine) (bytes rest : List ℕ) : Type 0 where
  pub fits : AllByRecursion TaskLineFits items
  pub plain : AllByRecursion IsPlain (spelled items)
  pub before : EndedLines (spelled items) rest bytes

-- items were appended to a list, as many as `done`: the bytes are this number, a line for each of
-- these items, which are all allowed, and then the rest
pub record AppendedBefore {A : Type 0} (says : A → TaskLine) (may_stand : A → Bool)
    (count done : ℕ) (old new : List A) (bytes rest : List ℕ) : Type 0 where
  pub items : List A
  pub are : new ≡ old ++ items
  pub many : length items ≡ done
  pub lines : LinesBefore (number count ∷ flat_map (single_line says) items) bytes rest
  pub stand : IsTrue (list_all may_stand items)

-- names were appended to a list
abbrev pub NamesBefore : ℕ → ℕ → List (List ℕ) → List (List ℕ) → List ℕ → List ℕ → Type 0
NamesBefore = AppendedBefore name is_name

-- facts that all exist were appended to a list
abbrev pub FactsBefore : List ℕ → ℕ → ℕ → List Fact → List Fact → List ℕ → List ℕ → Type 0
FactsBefore ranges = AppendedBefore fact (fact_in_ranges ranges)

-- effects whose facts all exist were appended to a list
abbrev pub EffectsBefore : List ℕ → ℕ → ℕ → List Effect → List Effect → List ℕ → List ℕ → Type 0
EffectsBefore ranges = AppendedBefore effect (effect_in_ranges ranges)
