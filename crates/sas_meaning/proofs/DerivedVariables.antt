-- Which variables are derived.
use Rattle.sas_meaning.proofs.Imports.{common_steps, ◌≢◌, ℕ, ◌<◌, length, arith, Parts, IsDerived, IsBasic}
use Rattle.sas_meaning.proofs.Layers.{layer_cases, on_layer_within}

-- a derived variable isn't basic
pub not_basic : (p : Parts) (v w : ℕ) → IsDerived p.variables v → IsBasic p w → w ≢ v
not_basic p v w derived basic e = grind (arith, common_steps)

-- it exists
pub derived_within : (p : Parts) (v : ℕ) → IsDerived p.variables v → v < length p.variables
derived_within p v derived = grind (arith, common_steps, layer_cases, not_basic, on_layer_within)
