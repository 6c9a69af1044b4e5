mod Numbering
mod InLists
mod Entering
mod InOrder
mod RunLengths
mod ByVariable
mod Existing
mod NotesOfFacts
mod Larger
pub mod TaskFacts
pub mod KnownFacts
pub mod FromNotes
mod JointLists
pub mod Keeping
pub mod FallingGroups
pub mod Counting
pub mod SetFacts
mod Least
pub mod Failing
mod FirstOfEffect
mod LowestEffects
pub mod VerdictsSoFar
pub mod OldValues
pub mod GoneRuns
pub mod Supporting
pub mod LookedAt
pub mod WatchChains
pub mod Watched
pub mod PlainEffects
mod Imports
