pub mod Calls
pub mod Grammar
pub mod Usage
