pub mod Lowest
pub mod Since
mod NameWords
mod PermutedWords
mod BorrowedWords
pub mod SimilarNames
pub mod Derivation
pub mod Orders
pub mod Sorting
pub mod Derivations
pub mod SomeConflict
pub mod Repeats
pub mod CauseLines
pub mod Places
pub mod WhyPlan
pub mod Looking
pub mod LongerRuns
pub mod Noted
pub mod Firsts
pub mod Once
pub mod RulesOf
pub mod Adding
pub mod Composing
pub mod Within
pub mod NamelessLines
pub mod Faulty
pub mod Behind
pub mod OpenConditions
pub mod Building
pub mod ExplainingSteps
pub mod ExplainedRules
mod Changing
mod ListedChanges
mod StepChains
mod VerdictAnswers
mod RunEndings
mod Standing
mod Replaying
pub mod Answering
mod Imports
