pub mod Plain
mod Fronts
pub mod PlainBytes
pub mod Paths
pub mod Live
pub mod Whole
pub mod Texts
pub mod Faults
pub mod Every
pub mod Standing
pub mod Pieces
pub mod Advancing
pub mod AcceptedLines
pub mod Ends
pub mod Conversion
pub mod Reading
pub mod Known
pub mod About
pub mod LineEnds
pub mod Refusals
pub mod KnownRefusals
mod Tested
mod Ending
mod Keeping
mod Imports
