pub mod TaskTexts
mod Imports
