-- The contents of a plan.
use Rattle.std.specs.Prelude.{ℕ, List}
use Rattle.sas_core.specs.declared.plan.CostKind.{CostKind}

-- the names of the steps in order, the cost on the last line, and the text after that cost (unit or
-- general cost), which has no effect on verdicts
pub record PlanParts : Type 0 where
  pub steps : List (List ℕ)
  pub cost : ℕ
  pub kind : CostKind
