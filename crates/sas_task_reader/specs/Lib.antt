pub mod TaskJudge
pub mod TaskMachine
pub mod Sections
pub mod NextLine
pub mod TaskOutline
pub mod TaskReader
pub mod TaskRefusal
