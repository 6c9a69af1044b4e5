pub mod PlainBytes
pub mod Plain
pub mod PlainEffects
pub mod Fitting
pub mod BadNames
pub mod FirstFaults
pub mod Passing
pub mod ChecksAreRules
pub mod SameParts
pub mod Places
mod Imports
