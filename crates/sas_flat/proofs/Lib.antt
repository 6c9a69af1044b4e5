pub mod Tables
pub mod Blocks
mod Sums
pub mod ByKey
pub mod Kept
mod Placing
mod EffectRows
mod Rows
pub mod FoundOperators
pub mod FoundVariables
pub mod Grown
mod Imports
