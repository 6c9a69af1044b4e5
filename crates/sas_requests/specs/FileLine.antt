-- The reasons why a file is refused, line by line.
use Rattle.std.specs.Prelude.{ℕ, Bool, true, false, List, [], ◌∷◌, ◌++◌, map, codes, decimal, Option}
use Rattle.std.specs.Option.{option_map_or}
use Rattle.sas_lines.specs.Lines.{text}
use Rattle.sas_reader.specs.declared.fault.Fault.{Fault}
use Rattle.sas_reader.specs.declared.fault.Kind.{Kind}
use Rattle.sas_reader.specs.declared.fault.Kind.TheVariants as kinds
use Rattle.sas_reader.specs.Found.{Kept}
use Rattle.sas_answers.specs.Shown.{shown}
use Rattle.sas_answers.specs.Words.{line}
use Rattle.sas_task_file.specs.declared.counts.ListCount.{ListCount}
use Rattle.sas_task_file.specs.Marks.{fixed_word_bytes}
use Rattle.sas_task_file.specs.declared.marks.Due.{Due}
use Rattle.sas_task_file.specs.declared.marks.Due.TheVariants as due
use Rattle.sas_task_file.specs.declared.marks.Location.{Location}
use Rattle.sas_task_file.specs.declared.marks.Location.TheVariants as at
use Rattle.sas_task_file.specs.declared.marks.Mark.{Mark}
use Rattle.sas_task_file.specs.declared.marks.What.{What}
use Rattle.sas_task_file.specs.declared.marks.What.TheVariants as what
use Rattle.sas_task_file.specs.declared.marks.WrongWord.{WrongWord}
use Rattle.sas_requests.specs.declared.hint.Hint.{Hint}
use Rattle.sas_requests.specs.declared.hint.Lacks.{Lacks}
use Rattle.sas_requests.specs.Hint.{hint_words, hint_for}

-- a line as data
pub data FileLine : Type 0 where
  -- the location of the line in a task
  At : Location → FileLine
  -- what is expected there
  Expected : Due → FileLine
  -- what is expected in a plan at a fault of this kind
  ExpectedInPlan : Kind → FileLine
  -- the first wrong number, and which numbers are allowed
  NumberMustBe : WrongWord → FileLine
  -- the number of items of the list that the line belongs to, and where the file has it
  Counted : ListCount → FileLine
  -- the text at a fault of this kind, by its first bytes: 64 are shown
  Found : Kind → List ℕ → FileLine
  -- what may have gone wrong
  Hinted : Hint → FileLine

-- the words for a location in a task
abbrev pub location_words : Location → List ℕ
location_words at.Version = codes "version"
location_words at.Metric = codes "metric"
location_words at.Variables = codes "variables"
location_words (at.Variable n) = codes "variable " ++ decimal n
location_words at.Groups = codes "groups"
location_words (at.Group n) = codes "group " ++ decimal n
location_words at.State = codes "state"
location_words at.Goal = codes "goal"
location_words at.Operators = codes "operators"
location_words (at.Operator n) = codes "operator " ++ decimal n
location_words at.Rules = codes "rules"
location_words (at.Rule n) = codes "rule " ++ decimal n
location_words at.End = codes "the end"

-- the words for what a name or a number is
abbrev pub what_words : What → List ℕ
what_words what.Variable = codes "variable"
what_words what.Value = codes "value"
what_words what.Operator = codes "operator"
what_words what.Version = codes "version"
what_words what.Metric = codes "metric"
what_words what.Variables = codes "number of variables"
what_words what.Groups = codes "number of groups"
what_words what.Operators = codes "number of operators"
what_words what.Rules = codes "number of rules"
what_words what.Range = codes "range"
what_words what.Facts = codes "number of facts"
what_words (what.ValueOf variable) = codes "value of variable " ++ decimal variable
what_words what.Prevail = codes "number of prevail conditions"
what_words what.Effects = codes "number of effects"
what_words what.Cost = codes "cost"
what_words what.Conditions = codes "number of conditions"

-- the words for what is expected in a task
abbrev pub due_words : Due → List ℕ
due_words (due.Word w) = fixed_word_bytes w
due_words (due.Name its) = codes "a name: " ++ what_words its
due_words (due.Number its least most) =
    codes "number " ++ decimal least ++ codes " to " ++ decimal most ++ codes ": " ++ what_words its
due_words due.Layer = codes "number -1 to 2147483647: axiom layer"
due_words due.Fact = codes "fact: VAR VALUE"
due_words due.Head = codes "head: VAR OLD NEW"
due_words due.Effect = codes "effect: COUNT, COUNT times VAR VALUE, VAR OLD NEW"
due_words due.Nothing = codes "end of file"

-- the words for what is expected in a plan, by the kind of its fault
abbrev pub plan_due_words : Kind → List ℕ
plan_due_words kinds.Name = codes "(NAME)"
plan_due_words kinds.Shape = codes "; cost = N (unit cost) or ; cost = N (general cost)"
plan_due_words kinds.Trailing = codes "end of file"
plan_due_words _ = codes "(NAME) or ; cost = N (unit cost) or ; cost = N (general cost)"

-- the least number that is allowed in place of a wrong one
abbrev pub least_words : Bool → List ℕ
least_words true = codes "-1"
least_words false = codes "0"

-- the word before the text at a fault of this kind: `End` is that of an unfinished last line
abbrev pub found_word : Kind → List ℕ
found_word kinds.End = codes "unfinished"
found_word _ = codes "found"

-- the words in place of an empty text
abbrev pub empty_words : Kind → List ℕ
empty_words kinds.End = codes "end of file"
empty_words _ = codes "empty line"

-- the bytes of a line, without its end
abbrev pub file_line_bytes : FileLine → List ℕ
file_line_bytes (At at) = line 2 (codes "at" ∷ location_words at ∷ [])
file_line_bytes (Expected d) = line 2 (codes "expected" ∷ due_words d ∷ [])
file_line_bytes (ExpectedInPlan kind) = line 2 (codes "expected" ∷ plan_due_words kind ∷ [])
file_line_bytes (NumberMustBe w) =
    line 2 (codes "number" ∷ decimal w.word ∷ codes "must be" ∷ least_words w.may_be_none
    ∷ codes "to" ∷ decimal w.most ∷ [])
file_line_bytes (Counted c) =
    line 2 (codes "line" ∷ decimal c.line ∷ codes "counts" ∷ decimal c.number ∷ [])
file_line_bytes (Found kind []) = line 2 (empty_words kind ∷ [])
file_line_bytes (Found kind (b ∷ bytes)) = line 2 (found_word kind ∷ shown 64 (b ∷ bytes) ∷ [])
file_line_bytes (Hinted h) = line 2 (codes "hint" ∷ hint_words h ∷ [])

-- the bytes of a line, with its end
abbrev pub ended_line : FileLine → List ℕ
ended_line l = file_line_bytes l ++ 10 ∷ []

-- ---- the lines of a refusal

-- a line for a value, if there is one
abbrev pub line_if : {A : Type 0} → (A → FileLine) → Option A → List FileLine
line_if line value = option_map_or (λ a. line a ∷ []) value []

-- What was kept of the text at a fault, and what alone is missing.
module _ (fault : Fault) (kept : Kept) (lacks : Lacks) where
  -- for a task: the location of the line, what is expected there, which number is wrong, the number
  -- of items of its list, what was found, and a hint
  abbrev pub task_reasons : Mark → Option WrongWord → Option ListCount → List FileLine
  task_reasons mark word count =
      At mark.at ∷ Expected mark.due ∷ (line_if NumberMustBe word ++ line_if Counted count
      ++ Found fault.kind kept.front ∷ line_if Hinted (hint_for true fault kept lacks))

  -- for a plan: what is expected, what was found, and a hint
  abbrev pub plan_reasons : List FileLine
  plan_reasons = ExpectedInPlan fault.kind ∷ Found fault.kind kept.front
      ∷ line_if Hinted (hint_for false fault kept lacks)

-- the text of some lines
abbrev pub file_text : List FileLine → List ℕ
file_text lines = text (map file_line_bytes lines)
