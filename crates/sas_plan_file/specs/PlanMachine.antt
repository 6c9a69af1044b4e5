-- The states while a plan file is read.
use Rattle.std.specs.Prelude.{◌≡◌, ℕ, Bool, true, List, [], ◌∷◌, ◌++◌, Option, Some, None}
use Rattle.sas_core.specs.declared.plan.CostKind.{CostKind}
use Rattle.sas_core.specs.Names.{is_name}
use Rattle.sas_core.specs.PlanParts.{PlanParts}
use Rattle.sas_reader.specs.Machine.{Behavior}
use Rattle.sas_reader.specs.System.{Node, ended, before, Leads, Rejects}
use Rattle.sas_plan_file.specs.PlanFormat.{PlanLine, PlanLineFits, step, cost, plan_format}

-- only these steps were read so far; or the cost was read as well, and the plan is complete
pub data PlanState : Type 0 where
  going : List (List ℕ) → PlanState
  closed : PlanParts → PlanState

abbrev pub plan_line_ok : PlanLine → Bool
plan_line_ok (step name) = is_name name
plan_line_ok (cost n kind) = true

abbrev pub plan_next : List (List ℕ) → PlanLine → PlanState
plan_next steps (step name) = going (steps ++ name ∷ [])
plan_next steps (cost n kind) = closed (record { steps = steps; cost = n; kind = kind })

-- until the cost is read, a step or the cost may follow
abbrev pub plan_node : PlanState → Node PlanState PlanParts PlanLine (Unit {0})
plan_node (going steps) = before tt plan_line_ok (plan_next steps)
plan_node (closed p) = ended p

abbrev pub plan_start : PlanState
plan_start = going []

-- the state with these steps, and the cost if it was read
abbrev pub plan_state : List (List ℕ) → Option (ℕ × CostKind) → PlanState
plan_state steps None = going steps
plan_state steps (Some c) = closed (record { steps = steps; cost = c.0; kind = c.1 })

-- the cost was read
abbrev pub HasCostLine : PlanState → Type 0
HasCostLine (going steps) = ⊥
HasCostLine (closed p) = Unit {0}

-- the lines lead from the start to the state, and a refused line doesn't change it
abbrev pub plan_behavior : Behavior PlanState
plan_behavior = record {
  led_by = λ lines p. Leads plan_format PlanLineFits plan_node plan_start lines p;
  ended = HasCostLine;
  rejects = λ p line k. Rejects plan_format PlanLineFits (plan_node p) line k;
  stopped = λ old line k new. new ≡ old;
}

-- the name is added as a step
abbrev pub StepsOn : PlanState → List ℕ → PlanState → Type 0
StepsOn (going steps) name new = new ≡ going (steps ++ name ∷ [])
StepsOn (closed p) name new = ⊥
