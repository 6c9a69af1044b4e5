mod Separated
mod Sent
mod Found
pub mod Returns
mod Feeding
mod Digits
pub mod Splitting
pub mod EndedLines
pub mod Words
pub mod Beginnings
mod Imports
