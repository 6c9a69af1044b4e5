-- The modules that public contracts cite.
pub mod Named
pub mod Nameless
pub mod Names
pub mod NameTable
pub mod Shapes
pub mod StepNames
pub mod Chains
