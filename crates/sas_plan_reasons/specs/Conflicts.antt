-- Which effects of an operator fire first on their variables.
use Rattle.std.specs.Prelude.{◌≡◌, ℕ, ◌<◌, ◌≤◌, List, length, Option, Some, None, slice_index_or}
use Rattle.sas_core.specs.declared.parts.Operator.{Operator}
use Rattle.sas_core.specs.declared.parts.Parts.{Parts}
use Rattle.sas_core.specs.Grounded.{effect_at}
use Rattle.sas_meaning.specs.Steps.{Fires}

-- the effect that is noted for the variable, if one is
abbrev pub first_on : List (Option ℕ) → ℕ → Option ℕ
first_on firsts var = slice_index_or firsts var None

-- for the variable of this effect, an effect is noted that stands no later and sets the same value
pub record AgreesWithFirst (firsts : List (Option ℕ)) (o : Operator)
    (effect first : ℕ) : Type 0 where
  pub is : first_on firsts (effect_at o effect).var ≡ Some first
  pub no_later : first ≤ effect
  pub same : (effect_at o first).new ≡ (effect_at o effect).new

-- for each variable the first of n effects that fire on it is noted, and the others agree with it
pub record AreFirstEffects (p : Parts) (s : List ℕ) (o : Operator)
    (n : ℕ) (firsts : List (Option ℕ))
    : Type 0 where
  pub one_each : length firsts ≡ length p.variables
  pub each : (effect : ℕ) → effect < n → Fires s (effect_at o effect)
      → (first : ℕ) × AgreesWithFirst firsts o effect first
  pub only : (var first : ℕ) → first_on firsts var ≡ Some first
      → (first < n) × Fires s (effect_at o first) × ((effect_at o first).var ≡ var)
