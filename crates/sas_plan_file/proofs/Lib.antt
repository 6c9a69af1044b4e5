pub mod PlanLines
pub mod PlanGrammar
pub mod PlanFilling
pub mod PlanJudging
pub mod PlanSteps
pub mod PlanStanding
pub mod PlanKeeping
pub mod PlanLaws
pub mod PlanAhead
pub mod PlanEnds
pub mod PlanCosts
mod Imports
