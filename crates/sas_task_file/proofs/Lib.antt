pub mod Ranges
pub mod Stretches
pub mod Blocks
pub mod TaskEnds
pub mod TableLines
pub mod TaskSections
pub mod TaskLines
pub mod TaskPlain
mod Fills
pub mod TaskGrammar
pub mod TaskFilling
pub mod TaskLaws
mod Beginnings
pub mod Tracking
pub mod TrackedSections
pub mod TrackedTask
pub mod DueBehind
pub mod Counting
pub mod WrongWords
pub mod MarkLaws
pub mod CountLaws
pub mod SomeReason
pub mod MayStand
pub mod SomeWrongWord
pub mod TaskReading
pub mod TaskJudging
mod Digits
mod AheadReading
mod LinesReading
pub mod FirstWrongWords
mod Imports
