-- The modules that public contracts cite.
pub mod Clashes
pub mod Groups
pub mod Families
pub mod Verdicts
pub mod Laws
pub mod VerdictLaws
pub mod Lists
pub mod Keeping
