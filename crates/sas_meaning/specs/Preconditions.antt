-- The remaining preconditions of an iterator.
use Rattle.std.specs.Prelude.{◌≡◌, ℕ, ◌<◌, ◌≤◌, List, ◌++◌, length, drop, filter_map}
use Rattle.sas_core.specs.declared.parts.Fact.{Fact}
use Rattle.sas_core.specs.declared.parts.Operator.{Operator}
use Rattle.sas_core.specs.declared.parts.Parts.{Parts}
use Rattle.sas_core.specs.Grounded.{operator_at}
use Rattle.sas_meaning.specs.Steps.{old_fact}

-- the remaining prevail conditions, and the old values that effect `effect` and later ones require
abbrev pub preconditions_left : List Fact → Operator → ℕ → List Fact
preconditions_left prevail o effect = prevail ++ filter_map old_fact (drop effect o.effects)

-- the operator exists and has `effects` effects; `effect` is at most their number
pub record IsAtOperator (p : Parts) (operator effect effects : ℕ) : Type 0 where
  pub exists : operator < length p.operators
  pub passed : effect ≤ effects
  pub count : effects ≡ length (operator_at p operator).effects
