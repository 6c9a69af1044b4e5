-- The location of each line of a task file, and what is expected there, in the order of the layout.
use Rattle.std.specs.Prelude.{◌≡◌, ℕ, ◌+◌, ◌-◌, List, [], ◌∷◌, ◌++◌, length, map, codes, slice_get, Some}
use Rattle.sas_core.specs.declared.parts.Fact.{Fact}
use Rattle.sas_core.specs.declared.parts.Variable.{Variable}
use Rattle.sas_core.specs.declared.parts.Operator.{Operator}
use Rattle.sas_core.specs.declared.parts.Effect.{Effect}
use Rattle.sas_core.specs.declared.parts.Parts.{Parts}
use Rattle.sas_reader.specs.Format.{IsBegun, MayFollow}
use Rattle.sas_task_file.specs.declared.marks.Due.{Due}
use Rattle.sas_task_file.specs.declared.marks.Due.TheVariants as due
use Rattle.sas_task_file.specs.declared.marks.FixedWord.{FixedWord}
use Rattle.sas_task_file.specs.declared.marks.FixedWord.TheVariants as fixed
use Rattle.sas_task_file.specs.declared.marks.Location.{Location}
use Rattle.sas_task_file.specs.declared.marks.Location.TheVariants as at
use Rattle.sas_task_file.specs.declared.marks.Mark.{Mark}
use Rattle.sas_task_file.specs.declared.marks.What.{What}
use Rattle.sas_task_file.specs.declared.marks.What.TheVariants as what
use Rattle.sas_task_file.specs.TaskFormat.{TaskSlot, word_slot, name_slot, number_slot, signed_slot, fact_slot, effect_slot, head_slot, task_format}

-- the bytes of the words
abbrev pub fixed_word_bytes : FixedWord → List ℕ
fixed_word_bytes fixed.BeginVersion = codes "begin_version"
fixed_word_bytes fixed.EndVersion = codes "end_version"
fixed_word_bytes fixed.BeginMetric = codes "begin_metric"
fixed_word_bytes fixed.EndMetric = codes "end_metric"
fixed_word_bytes fixed.BeginVariable = codes "begin_variable"
fixed_word_bytes fixed.EndVariable = codes "end_variable"
fixed_word_bytes fixed.BeginMutexGroup = codes "begin_mutex_group"
fixed_word_bytes fixed.EndMutexGroup = codes "end_mutex_group"
fixed_word_bytes fixed.BeginState = codes "begin_state"
fixed_word_bytes fixed.EndState = codes "end_state"
fixed_word_bytes fixed.BeginGoal = codes "begin_goal"
fixed_word_bytes fixed.EndGoal = codes "end_goal"
fixed_word_bytes fixed.BeginOperator = codes "begin_operator"
fixed_word_bytes fixed.EndOperator = codes "end_operator"
fixed_word_bytes fixed.BeginRule = codes "begin_rule"
fixed_word_bytes fixed.EndRule = codes "end_rule"

-- ---- what is expected on the lines of each section

-- any number, and one that isn't 0
abbrev pub any_number : What → Due
any_number its = due.Number its 0 2147483647

abbrev pub positive_number : What → Due
positive_number its = due.Number its 1 2147483647

-- the first word, the lines between, the last word
abbrev pub between_words : FixedWord → List Due → FixedWord → List Due
between_words first dues last = due.Word first ∷ (dues ++ due.Word last ∷ [])

-- the number of items, and then the same line for each
abbrev pub counted_dues : {A : Type 0} → What → Due → List A → List Due
counted_dues its one items = any_number its ∷ map (λ _. one) items

abbrev pub variable_dues : Variable → List Due
variable_dues v = between_words fixed.BeginVariable
    (due.Name what.Variable ∷ due.Layer ∷ positive_number what.Range
    ∷ map (λ _. due.Name what.Value) v.values) fixed.EndVariable

abbrev pub group_dues : List Fact → List Due
group_dues facts =
    between_words fixed.BeginMutexGroup (counted_dues what.Facts due.Fact facts) fixed.EndMutexGroup

abbrev pub operator_dues : Operator → List Due
operator_dues o = between_words fixed.BeginOperator
    (due.Name what.Operator ∷ (counted_dues what.Prevail due.Fact o.prevail
    ++ (counted_dues what.Effects due.Effect o.effects ++ any_number what.Cost ∷ [])))
    fixed.EndOperator

abbrev pub rule_dues : Effect → List Due
rule_dues r = between_words fixed.BeginRule
    (counted_dues what.Conditions due.Fact r.conditions ++ due.Head ∷ []) fixed.EndRule

-- the values of these variables in the initial state, of which the first is variable n; each is less
-- than the variable's range
abbrev pub value_dues : ℕ → List Variable → List Due
value_dues n [] = []
value_dues n (v ∷ variables) =
    due.Number (what.ValueOf n) 0 (length v.values - 1) ∷ value_dues (n + 1) variables

-- ---- the marks of a task

-- these lines are expected at one location
abbrev pub there : Location → List Due → List Mark
there at dues = map (λ d. record { at = at; due = d }) dues

-- the lines of all items, which are numbered from n on; the location has the number
abbrev pub numbered : {A : Type 0} → (ℕ → Location) → (A → List Due) → ℕ → List A → List Mark
numbered at dues n [] = []
numbered at dues n (a ∷ rest) = there (at n) (dues a) ++ numbered at dues (n + 1) rest

-- the location of each line of the task and what is expected there, in order
abbrev pub task_marks : Parts → List Mark
task_marks p =
    there at.Version (between_words fixed.BeginVersion (due.Number what.Version 3 3 ∷ []) fixed.EndVersion)
    ++ (there at.Metric (between_words fixed.BeginMetric (due.Number what.Metric 0 1 ∷ []) fixed.EndMetric)
    ++ (there at.Variables (positive_number what.Variables ∷ [])
    ++ (numbered at.Variable variable_dues 0 p.variables
    ++ (there at.Groups (any_number what.Groups ∷ [])
    ++ (numbered at.Group group_dues 0 p.groups
    ++ (there at.State (between_words fixed.BeginState (value_dues 0 p.variables) fixed.EndState)
    ++ (there at.Goal (between_words fixed.BeginGoal (counted_dues what.Facts due.Fact p.goal)
    fixed.EndGoal)
    ++ (there at.Operators (any_number what.Operators ∷ [])
    ++ (numbered at.Operator operator_dues 0 p.operators
    ++ (there at.Rules (any_number what.Rules ∷ [])
    ++ numbered at.Rule rule_dues 0 p.rules))))))))))

-- After these lines, this is expected: some task begins with them, and its next line has this mark.
pub record IsDue (begun : List (List ℕ)) (mark : Mark) : Type 0 where
  pub begins : IsBegun task_format begun
  pub marked : slice_get (task_marks begins.0) (length begun) ≡ Some mark

-- the slot of an expected line
abbrev pub slot_of_due : Due → TaskSlot
slot_of_due (due.Word w) = word_slot (fixed_word_bytes w)
slot_of_due (due.Name its) = name_slot
slot_of_due (due.Number its least most) = number_slot
slot_of_due due.Layer = signed_slot
slot_of_due due.Fact = fact_slot
slot_of_due due.Head = head_slot
slot_of_due due.Effect = effect_slot
-- `Nothing` occurs only after all lines, where no line belongs; any slot would do
slot_of_due due.Nothing = name_slot

-- ---- laws

-- after the same lines, one thing is expected
abbrev pub OneDue : Type 0
OneDue = (begun : List (List ℕ)) (m n : Mark) → IsDue begun m → IsDue begun n → m ≡ n

-- if a task has a line of a slot there, something is expected, which belongs to this slot
abbrev pub SomeDue : Type 0
SomeDue = (begun : List (List ℕ)) (s : TaskSlot) → MayFollow task_format begun s
    → (m : Mark) × IsDue begun m × (slot_of_due m.due ≡ s)
