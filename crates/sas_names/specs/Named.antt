-- Which operators have a given name.
use Rattle.std.specs.Prelude.{◌≡◌, ℕ, ◌<◌, List, length}
use Rattle.sas_core.specs.declared.parts.Parts.{Parts}
use Rattle.sas_core.specs.Grounded.{operator_at}

-- the operator exists and has exactly this name
pub record IsNamed (p : Parts) (name : List ℕ) (operator : ℕ) : Type 0 where
  pub exists : operator < length p.operators
  pub named : (operator_at p operator).name ≡ name
