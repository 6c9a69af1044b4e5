pub mod PlanTexts
pub mod PlanFormat
pub mod PlanMachine
pub mod PlanLine
pub mod PlanReader
pub mod PlanText
pub mod PlanEnds
pub mod PlanRefusal
