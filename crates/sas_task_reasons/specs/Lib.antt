-- The modules that public contracts cite.
pub use Rattle.sas_mutex.specs.Failures
pub mod WhyGroups
pub mod WhyLayers
pub mod ReasonLaws
