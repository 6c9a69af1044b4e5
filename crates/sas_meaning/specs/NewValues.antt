-- The data of the layer checks about the rules before the current one.
use Rattle.std.specs.Prelude.{◌≡◌, ℕ, ◌<◌, List, length, slice_index_or, Option, None, Some}
use Rattle.sas_core.specs.declared.parts.Parts.{Parts}
use Rattle.sas_core.specs.Grounded.{rule_at}
use Rattle.sas_meaning.specs.Layers.{CanFire}

-- this rule comes before `place`, can fire, and sets the variable to the value
pub record IsGiverBefore (p : Parts) (place rule var value : ℕ) : Type 0 where
  pub before : rule < place
  pub can_fire : CanFire p (rule_at p rule)
  pub its_var : (rule_at p rule).var ≡ var
  pub its_new : (rule_at p rule).new ≡ value

-- for each variable, the new value of the rules before `place` that can fire, if there is such a
-- rule
pub record NewValues (p : Parts) (place : ℕ) (values : List (Option ℕ)) : Type 0 where
  pub one_each : length values ≡ length p.variables
  -- the new value of each such rule is stored
  pub all : (rule : ℕ) → rule < place → CanFire p (rule_at p rule)
      → slice_index_or values (rule_at p rule).var None ≡ Some (rule_at p rule).new
  -- each stored value is that of such a rule
  pub only : (var value : ℕ) → slice_index_or values var None ≡ Some value → (rule : ℕ)
      × IsGiverBefore p place rule var value
