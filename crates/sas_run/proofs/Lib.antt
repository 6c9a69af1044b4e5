pub mod Searching
mod Collecting
pub mod LongSearch
pub mod Determined
mod OtherSenses
pub mod Choosing
pub mod NextStates
pub mod PlanVerdicts
pub mod FollowingAnyway
pub mod Ranges
pub mod Missed
pub mod Giving
pub mod Deleted
pub mod GivenLast
pub mod GoingAnyway
pub mod PlainSteps
pub mod NamedAlike
pub mod Going
pub mod PlanStates
pub mod GoingByNumbers
pub mod NumberVerdicts
pub mod RestOfRun
pub mod MadeSteps
pub mod Observing
pub mod Runs
pub mod Endings
mod Imports
