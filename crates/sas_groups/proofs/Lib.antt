pub mod Invariance
mod StateVerdicts
pub mod GreatestFamily
pub mod Turns
pub mod Iff
pub mod Effects
pub mod JointVerdicts
pub mod JointLists
mod Imports
