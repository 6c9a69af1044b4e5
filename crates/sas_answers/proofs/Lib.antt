mod Placed
pub mod Pushed
pub mod Putting
pub mod Sent
pub mod Texts
mod WordLines
pub mod ShownTexts
pub mod PlainLines
pub mod RuleLines
pub mod InitialLines
pub mod AnswerLaws
pub mod CheckAnswers
pub mod MutexAnswers
pub mod VerdictAnswers
pub mod WordedLines
mod Imports
