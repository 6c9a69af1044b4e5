-- Traces: what the steps of a plan do. There is a line for each variable of the initial state, then
-- for each step that succeeds its line, and one for each variable whose value it changed.
use Rattle.std.specs.Prelude.{ℕ, ◌+◌, ◌==◌, Bool, not, List, [], ◌∷◌, ◌++◌, length, map, filter, flat_map, slice_index, codes, decimal}
use Rattle.std.specs.List.{range_with_len}
use Rattle.std.specs.Option.{unwrap_or}
use Rattle.sas_core.specs.declared.parts.Parts.{Parts}
use Rattle.sas_core.specs.Grounded.{operator_at}
use Rattle.sas_core.specs.Tasks.{cost_of}
use Rattle.sas_core.specs.Variables.{value_name}
use Rattle.sas_answers.specs.Words.{line}
use Rattle.sas_answers.specs.Facts.{initial_lines}
use Rattle.sas_run.specs.Runs.{Run, state_at}

-- ---- a step

-- `step I OPERATOR COST NAME`, where I is counted from 1, and the step has the operator's name
abbrev pub step_line : Parts → ℕ → ℕ → List ℕ
step_line p step operator = line 0 (codes "step" ∷ decimal step ∷ decimal operator
    ∷ decimal (cost_of p operator) ∷ (operator_at p operator).name ∷ [])

-- whether the variable has another value in the state s' than in s
abbrev pub is_changed : List ℕ → List ℕ → ℕ → Bool
is_changed s s' var = not (slice_index s var == slice_index s' var)

-- the variables of which this is so, ascending: derived ones, too
abbrev pub changed : Parts → List ℕ → List ℕ → List ℕ
changed p s s' = filter (is_changed s s') (range_with_len 0 (length p.variables))

-- `change VAR OLD NEW NAME`, where NAME is the name of the value NEW
abbrev pub change_line : Parts → List ℕ → List ℕ → ℕ → List ℕ
change_line p s s' var = line 0 (codes "change" ∷ decimal var
    ∷ decimal (slice_index s var)
    ∷ decimal (slice_index s' var)
    ∷ unwrap_or (value_name p.variables var (slice_index s' var)) []
    ∷ [])

-- so for each variable that a step changed, which led from s to s'
abbrev pub change_lines : Parts → List ℕ → List ℕ → List (List ℕ)
change_lines p s s' = map (change_line p s s') (changed p s s')

-- ---- a run

-- the lines of step k + 1 of a run
abbrev pub step_lines : Parts → Run → ℕ → List (List ℕ)
step_lines p run k = step_line p (k + 1) (slice_index run.operators k)
    ∷ change_lines p (state_at run k) (state_at run (k + 1))

-- the lines of a run: of its initial state, and of its steps
abbrev pub run_lines : Parts → Run → List (List ℕ)
run_lines p run = initial_lines p.variables (state_at run 0)
    ++ flat_map (step_lines p run) (range_with_len 0 (length run.steps))
