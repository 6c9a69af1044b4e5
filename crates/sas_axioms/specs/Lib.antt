-- The modules that public contracts cite.
pub use Rattle.sas_meaning.specs.States
pub use Rattle.sas_meaning.specs.Layers
pub use Rattle.sas_meaning.specs.Settled
pub use Rattle.sas_meaning.specs.Steps
pub use Rattle.sas_meaning.specs.InitialStates
pub use Rattle.sas_meaning.specs.Reachable
pub use Rattle.sas_meaning.specs.LayerChecks
pub use Rattle.sas_meaning.specs.Laws
pub mod ByLayers
pub mod LayerRules
pub mod Conditions
pub mod Worklist
pub mod Sources
pub mod Agenda
pub mod Following
