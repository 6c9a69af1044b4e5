-- A law of task files, in addition to those of every format: how the first lines of a task can be
-- completed.
use Rattle.std.specs.Prelude.{◌≡◌, ℕ, List, [], ◌∷◌, ◌++◌, map, Option, Some, None, codes, nat_eq, if◌then◌else◌}
use Rattle.std.specs.Cmp.Lexicographic.{pointwise}
use Rattle.sas_core.specs.declared.parts.Parts.{Parts}
use Rattle.sas_core.specs.Grounded.{no_effect}
use Rattle.sas_core.specs.WellRanged.{WellRanged}
use Rattle.sas_reader.specs.Format.{IsBegun}
use Rattle.sas_task_file.specs.TaskFormat.{TaskLine, word, name, number, signed, fact, effect, head, TaskSlot}
use Rattle.sas_task_file.specs.TaskFormat.{word_slot, name_slot, number_slot, signed_slot, fact_slot, effect_slot}
use Rattle.sas_task_file.specs.TaskFormat.{head_slot, task_slot, task_line_bytes, task_layout, task_format}

-- The number that fills a number slot, by the slot of the line before: after `begin_version` the
-- version, 3; after `end_metric` the number of variables, 1; after an axiom layer a range, 1;
-- everywhere else 0.
abbrev pub number_filling : Option TaskSlot → ℕ
number_filling (Some (word_slot w)) =
    if pointwise nat_eq w (codes "begin_version")
    then 3
    else (if pointwise nat_eq w (codes "end_metric") then 1 else 0)
number_filling (Some signed_slot) = 1
number_filling _ = 0

-- the line that fills a slot: its word, the name `x`, such a number, `-1`, the fact `0 0`, the
-- effect `0 0 -1 0`, the head `0 -1 0`
abbrev pub filling : Option TaskSlot → TaskSlot → TaskLine
filling before (word_slot w) = word w
filling before name_slot = name (codes "x")
filling before number_slot = number (number_filling before)
filling before signed_slot = signed None
filling before fact_slot = fact (record { var = 0; value = 0 })
filling before effect_slot = effect no_effect
filling before head_slot = head 0 None 0

-- the bytes of these fillings
pub record FillingsInBytes (before : Option TaskSlot) : Type 0 where
  pub signed : task_line_bytes (filling before signed_slot) ≡ codes "-1"
  pub fact : task_line_bytes (filling before fact_slot) ≡ codes "0 0"
  pub effect : task_line_bytes (filling before effect_slot) ≡ codes "0 0 -1 0"
  pub head : task_line_bytes (filling before head_slot) ≡ codes "0 -1 0"

-- the slot of the last of the lines, or `before` if there are no lines
abbrev pub last_slot : Option TaskSlot → List TaskLine → Option TaskSlot
last_slot before [] = before
last_slot before (i ∷ items) = last_slot (Some (task_slot i)) items

-- each line is the filling of its slot; `before` is the slot of the line before them
abbrev pub AreFillings : Option TaskSlot → List TaskLine → Type 0
AreFillings before [] = Unit {0}
AreFillings before (i ∷ items) = (i ≡ filling before (task_slot i))
    × AreFillings (Some (task_slot i)) items

-- a task begins with these lines, and all its other lines are fillings
pub record Completion (begun : List (List ℕ)) : Type 0 where
  pub parts : Parts
  pub before : List TaskLine
  pub fillings : List TaskLine
  pub good : WellRanged parts
  pub layout : task_layout parts ≡ before ++ fillings
  pub spells : map task_line_bytes before ≡ begun
  pub filled : AreFillings (last_slot None before) fillings

-- lines that begin a task can be completed by fillings, in exactly one way
abbrev pub TaskIsFilled : Type 0
TaskIsFilled = (begun : List (List ℕ)) → IsBegun task_format begun → Completion begun

abbrev pub OneCompletion : Type 0
OneCompletion = (begun : List (List ℕ)) (c d : Completion begun) → c.parts ≡ d.parts
