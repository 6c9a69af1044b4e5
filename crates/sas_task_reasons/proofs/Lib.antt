pub mod GroupReasons
mod Positions
mod FailingChecks
mod OtherGivers
mod WholeReasons
mod GroupTexts
pub mod GroupAnswers
pub mod TaskAnswers
mod Imports
