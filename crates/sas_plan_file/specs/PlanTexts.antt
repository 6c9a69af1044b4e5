-- The plan file: a line for each step, then one line with the cost.
use Rattle.std.specs.Prelude.{ℕ, List, [], ◌∷◌, ◌++◌, map, codes}
use Rattle.std.specs.Fmt.{decimal}
use Rattle.sas_core.specs.declared.plan.CostKind.{CostKind}
use Rattle.sas_core.specs.declared.plan.CostKind.TheVariants as costs
use Rattle.sas_core.specs.PlanParts.{PlanParts}
use Rattle.sas_core.specs.WellNamed.{WellNamed}
use Rattle.sas_reader.specs.Texts.{Texts}

-- the content of a line of a plan file: the name of a step, or the cost
pub data PlanLine : Type 0 where
  step : List ℕ → PlanLine
  cost : ℕ → CostKind → PlanLine

-- the words after the cost
abbrev pub cost_words : CostKind → List ℕ
cost_words costs.Unit = codes " (unit cost)"
cost_words costs.General = codes " (general cost)"

-- what every cost line begins with
abbrev pub cost_front : List ℕ
cost_front = codes "; cost = "

-- a step is its name in parentheses; the cost is a decimal number between its first and last words
abbrev pub plan_line_bytes : PlanLine → List ℕ
plan_line_bytes (step name) = codes "(" ++ (name ++ codes ")")
plan_line_bytes (cost n kind) = cost_front ++ (decimal n ++ cost_words kind)

-- the lines of a plan file: all steps in order, then the cost
abbrev pub plan_layout : PlanParts → List PlanLine
plan_layout p = map step p.steps ++ cost p.cost p.kind ∷ []

-- the texts of plans
abbrev pub plan_texts : Texts PlanParts PlanLine
plan_texts = record { Good = WellNamed; layout = plan_layout; spelled = plan_line_bytes }
