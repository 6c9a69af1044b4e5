mod TablePuts
mod NamesFrom
mod NameShapes
mod StepNumbers
mod ChainsFrom
mod FoundSteps
mod LikelyOperators
mod Imports
