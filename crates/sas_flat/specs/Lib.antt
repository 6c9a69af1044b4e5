pub mod Lists
pub mod ByKey
pub mod Growing
pub mod Effects
pub mod Operators
pub mod Variables
pub mod FlatTasks
pub mod Outlines
