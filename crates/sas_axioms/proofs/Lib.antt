pub mod Counters
pub mod OneLayer
pub mod Standing
pub mod AllConditions
pub mod Sources
pub mod Tracking
pub mod RuleChanges
pub mod FallingSteps
pub mod RisingSteps
pub mod GoneSteps
pub mod AgendaOrder
pub mod Recounting
pub mod CountingEntries
pub mod RulesOf
pub mod SetVariables
mod Imports
