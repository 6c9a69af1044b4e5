-- Which contents a plan may have.
use Rattle.std.specs.List.{AllByRecursion}
use Rattle.sas_core.specs.Names.{IsName}
use Rattle.sas_core.specs.Numbers.{IsPlanCost}
use Rattle.sas_core.specs.PlanParts.{PlanParts}

-- each step is a name, and the cost fits into a plan file
pub record WellNamed (p : PlanParts) : Type 0 where
  pub steps : AllByRecursion IsName p.steps
  pub cost : IsPlanCost p.cost
