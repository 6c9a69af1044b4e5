-- The number of a list's items, for each line of a task file that is one of them or directly behind
-- the last one: which line has this number, in the order of the layout.
use Rattle.std.specs.Prelude.{◌≡◌, ℕ, ◌+◌, ◌-◌, List, [], ◌∷◌, ◌++◌, length, map, codes, slice_get, Option, Some, None}
use Rattle.std.specs.List.{flat_map}
use Rattle.sas_core.specs.declared.parts.Fact.{Fact}
use Rattle.sas_core.specs.declared.parts.Variable.{Variable}
use Rattle.sas_core.specs.declared.parts.Operator.{Operator}
use Rattle.sas_core.specs.declared.parts.Effect.{Effect}
use Rattle.sas_core.specs.declared.parts.Parts.{Parts}
use Rattle.sas_reader.specs.Format.{IsBegun}
use Rattle.sas_task_file.specs.declared.counts.ListCount.{ListCount}
use Rattle.sas_task_file.specs.TaskFormat.{word, name, number, signed, single_line, version_lines, metric_lines, task_format}

-- the counts of some lines, given the number of the first of them
abbrev pub Counted : Type 0
Counted = ℕ → List (Option ListCount)

-- lines behind lines
abbrev pub in_order : List Counted → Counted
in_order [] k = []
in_order (part ∷ parts) k = part k ++ in_order parts (k + length (part k))

-- as many lines without a count
abbrev pub uncounted : {A : Type 0} → List A → Counted
uncounted lines k = map (λ _. None) lines

-- the number of the items is on the line before
abbrev pub before_items : {A : Type 0} → List A → ℕ → ListCount
before_items items k = record { line = k - 1; number = length items }

-- the items, a line for each, and the line behind them
abbrev pub list_counts : {A : Type 0} → List A → Counted
list_counts items k =
    let count = Some (before_items items k) in map (λ _. count) items ++ count ∷ []

-- the items, which are blocks, and the line behind them: each block has this count on its first
-- line, and counts of its own behind it
abbrev pub section_counts : {A : Type 0} → (A → List Counted) → List A → Counted
section_counts inside items k =
    let count : Counted = λ _. Some (before_items items k) ∷ [] in
    in_order (flat_map (λ a. count ∷ inside a) items ++ count ∷ []) k

-- this number of variables is on line 7
abbrev pub counted_on_seven : ℕ → ListCount
counted_on_seven variables = record { line = 7; number = variables }

-- ---- the lines of a block behind its first line

abbrev pub variable_counts : Variable → List Counted
variable_counts v =
    uncounted (name v.name ∷ signed v.layer ∷ number (length v.values) ∷ [])
    ∷ list_counts v.values ∷ []

abbrev pub group_counts : List Fact → List Counted
group_counts facts = uncounted (single_line number (length facts)) ∷ list_counts facts ∷ []

abbrev pub operator_counts : Operator → List Counted
operator_counts o =
    uncounted (name o.name ∷ number (length o.prevail) ∷ [])
    ∷ list_counts o.prevail
    ∷ list_counts o.effects
    ∷ uncounted (single_line word (codes "end_operator")) ∷ []

abbrev pub rule_counts : Effect → List Counted
rule_counts r =
    uncounted (single_line number (length r.conditions))
    ∷ list_counts r.conditions
    ∷ uncounted (single_line word (codes "end_rule")) ∷ []

-- ---- the task

-- the count of each line of the task and of what is behind its last line, in order
abbrev pub task_counts : Parts → List (Option ListCount)
task_counts p = in_order
    (uncounted (version_lines ++ metric_lines p.metric
    ++ single_line number (length p.variables))
    ∷ section_counts variable_counts p.variables
    ∷ section_counts group_counts p.groups
    -- the values of the state, and the three lines behind them
    ∷ (λ _. map (λ _. Some (counted_on_seven (length p.variables))) p.init)
    ∷ (λ _. Some (counted_on_seven (length p.variables)) ∷ None ∷ None ∷ [])
    ∷ list_counts p.goal
    ∷ uncounted (single_line number (length p.operators))
    ∷ section_counts operator_counts p.operators
    ∷ section_counts rule_counts p.rules ∷ [])
    1

-- After these lines, this count applies: some task begins with them, and has it there.
pub record IsCounted (begun : List (List ℕ)) (count : Option ListCount) : Type 0 where
  pub begins : IsBegun task_format begun
  pub counted : slice_get (task_counts begins.0) (length begun) ≡ Some count

-- ---- laws

-- after the same lines, one count applies, or none
abbrev pub OneCount : Type 0
OneCount = (begun : List (List ℕ)) (c d : Option ListCount)
    → IsCounted begun c → IsCounted begun d → c ≡ d

-- wherever some task begins with the lines, it is known which
abbrev pub SomeCount : Type 0
SomeCount = (begun : List (List ℕ)) → IsBegun task_format begun
    → (c : Option ListCount) × IsCounted begun c
