pub mod Telling
pub mod Holding
pub mod Written
