-- What settling one layer changes.
use Rattle.std.specs.Prelude.{ℕ, ◌<◌, ◌≤◌, List}
use Rattle.sas_core.specs.declared.parts.Parts.{Parts}
use Rattle.sas_core.specs.Variables.{IsState}
use Rattle.sas_meaning.specs.Settled.{IsSettledAt}
use Rattle.sas_meaning.specs.Forced.{SameOff}

-- the layer was settled, and nothing else changed
pub record SettlesLayer (p : Parts) (layer : ℕ) (s s' : List ℕ) : Type 0 where
  pub state : IsState p.variables s'
  pub off : SameOff p layer s s'
  pub settled : IsSettledAt p layer s'

-- this layer, at least `from`, was settled, and the layers that were skipped were settled before
pub record SettlesNext (p : Parts) (from : ℕ) (s s' : List ℕ) (layer : ℕ) : Type 0 where
  pub from_on : from ≤ layer
  pub skipped : (below : ℕ) → from ≤ below → below < layer → IsSettledAt p below s
  pub settles : SettlesLayer p layer s s'
