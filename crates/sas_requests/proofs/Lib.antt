pub mod Summaries
mod FileTexts
pub mod FileReasonLines
pub mod Outputs
pub mod PlanOutputs
pub mod Headlines
mod BestPlans
pub mod Endings
pub mod Lengths
pub mod PlainLines
pub mod InvariantGroups
mod SummaryLengths
pub mod ShortOutputs
mod WhyAnswers
mod ReasonLines
mod PlainAnswers
mod GroupLines
mod TraceLines
mod SameAnswers
pub mod RefusalReasons
mod RefusalLaws
pub mod ReasonedOutputs
pub mod SaidOutputs
pub mod TraceLaws
mod FileEnds
pub mod RequestEnds
mod SideBySide
mod Tallying
mod PlanVerdicts
mod Turns
mod SaidPlans
mod TaskAnswers
mod JudgeLaws
mod LastBytes
pub mod PlanLines
mod PlansHeadlines
mod InMemory
mod Imports
mod PlansSaid
mod SamePlans
