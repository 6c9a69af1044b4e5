pub mod TaskMoves
pub mod TaskSteps
pub mod Noting
pub mod LastLines
pub mod SectionLines
pub mod SectionSteps
pub mod Marking
pub mod RefusedLines
mod TaskStanding
mod Outlines
mod StoredParts
mod StoredText
mod Reasons
mod Imports
