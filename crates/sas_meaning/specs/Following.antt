-- How a state differs from the last settled state, before and after it is settled again.
use Rattle.std.specs.Prelude.{◌≡◌, ◌≢◌, ◌⊎◌, ℕ, ◌<◌, List, length, All, Contains, slice_index}
use Rattle.std.specs.List.{AllPairs}
use Rattle.sas_core.specs.declared.parts.Fact.{Fact}
use Rattle.sas_core.specs.declared.parts.Parts.{Parts}
use Rattle.sas_meaning.specs.States.{AllHold}
use Rattle.sas_meaning.specs.Layers.{IsBasic, IsOnLayer}

-- These facts held in s and may have been replaced in s'. Each is on a basic variable, and no two
-- are on the same variable. All other variables have the same value in both.
pub record HaveGone (p : Parts) (gone : List Fact) (s s' : List ℕ) : Type 0 where
  pub basic : All (λ (f : Fact). IsBasic p f.var) gone
  pub exist : All (λ (f : Fact). f.var < length p.variables) gone
  pub held : AllHold (slice_index s) gone
  pub once : AllPairs (λ (f g : Fact). f.var ≢ g.var) gone
  pub others : (var : ℕ) → All (λ (f : Fact). f.var ≢ var) gone
      → slice_index s' var ≡ slice_index s var

-- the variables on the list exist, and each derived one that has other values in s and s' is on it
pub record ListsDerived (p : Parts) (s s' listed : List ℕ) : Type 0 where
  pub exist : All (λ var. var < length p.variables) listed
  pub each : (layer var : ℕ) → IsOnLayer p layer var
      → (slice_index s' var ≡ slice_index s var) ⊎ Contains listed var
