-- The summary of a task: a line for each of its numbers, for each variable's initial value
-- and for each fact of its goal.
use Rattle.std.specs.Prelude.{ℕ, if◌then◌else◌, List, [], ◌∷◌, ◌++◌, length, map, count_by, is_some, codes, decimal}
use Rattle.sas_core.specs.declared.parts.Fact.{Fact}
use Rattle.sas_core.specs.declared.parts.Variable.{Variable}
use Rattle.sas_answers.specs.Words.{line}
use Rattle.sas_answers.specs.Facts.{fact_line, initial_lines}
use Rattle.sas_flat.specs.declared.outline.Outline.{Outline}

-- `WORD N`
abbrev pub number_line : List ℕ → ℕ → List ℕ
number_line word n = line 0 (word ∷ decimal n ∷ [])

-- how many variables are derived
abbrev pub derived_count : List Variable → ℕ
derived_count variables = count_by (λ (v : Variable). is_some v.layer) variables

-- the lines of the task's numbers: `metric M`, where M is 1 if the operators' cost lines are used,
-- else 0, `variables N`, `derived D`, `groups G`, `operators O`, `rules R`
abbrev pub number_lines : Outline → List (List ℕ)
number_lines o =
    number_line (codes "metric") (if o.metric then 1 else 0)
    ∷ number_line (codes "variables") (length o.variables)
    ∷ number_line (codes "derived") (derived_count o.variables)
    ∷ number_line (codes "groups") o.groups
    ∷ number_line (codes "operators") o.operators
    ∷ number_line (codes "rules") o.rules
    ∷ []

-- `goal VAR VALUE NAME` for each fact of the goal
abbrev pub goal_fact_lines : List Variable → List Fact → List (List ℕ)
goal_fact_lines variables facts =
    map (λ (f : Fact). fact_line (codes "goal") variables f.var f.value) facts

-- the lines of the summary of a task with this outline, in order
abbrev pub summary_lines : Outline → List (List ℕ)
summary_lines o =
    number_lines o ++ initial_lines o.variables o.init ++ goal_fact_lines o.variables o.goal
