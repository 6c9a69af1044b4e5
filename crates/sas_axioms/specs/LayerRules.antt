-- The rules that can fire, layer by layer.
use Rattle.std.specs.Prelude.{◌≡◌, ◌⊎◌, ℕ, ◌<◌, ◌≤◌, List, [], length, All, Contains, slice_index, slice_index_or}
use Rattle.std.specs.List.Sorted.{IsNonDecreasingBy}
use Rattle.sas_core.specs.declared.parts.Fact.{Fact}
use Rattle.sas_core.specs.declared.parts.Parts.{Parts}
use Rattle.sas_core.specs.Grounded.{rule_at}
use Rattle.sas_meaning.specs.Layers.{IsOnLayer, CanFire}
use Rattle.sas_meaning.specs.Places.{places, can_give}
use Rattle.sas_axioms.specs.declared.layer_rules.LayerRule.{LayerRule}

-- the rule is on this layer and can fire
pub record IsRuleOn (p : Parts) (layer rule : ℕ) : Type 0 where
  pub exists : rule < length p.rules
  pub on : IsOnLayer p layer (rule_at p rule).var
  pub can : CanFire p (rule_at p rule)

-- the rule, which is on this layer, has conditions on derived variables, all of them on this layer:
-- it doesn't hold while these variables have their defaults
pub record IsLate (p : Parts) (layer rule : ℕ) : Type 0 where
  pub stays : All (λ (c : Fact). (its : ℕ) → IsOnLayer p its c.var → its ≡ layer)
      (rule_at p rule).conditions
  pub waits : (c : Fact) × Contains (rule_at p rule).conditions c × IsOnLayer p layer c.var

-- rules that can fire, each with its layer, among them all that aren't late, in ascending order of
-- their layers
pub record AreFirstRules (p : Parts) (rules : List LayerRule) : Type 0 where
  pub only : All (λ (r : LayerRule). IsRuleOn p r.layer r.rule) rules
  pub each : (layer rule : ℕ) → IsRuleOn p layer rule
      → Contains rules (record { layer = layer; rule = rule }) ⊎ IsLate p layer rule
  pub ascending : IsNonDecreasingBy (λ (r : LayerRule). r.layer) rules

-- the rules from index `start` up to but not including `end` are on the layer; there is at least
-- one, and the next isn't on the layer
pub record IsLayerSpan (rules : List LayerRule) (start layer end : ℕ) : Type 0 where
  pub some : start < end
  pub within : end ≤ length rules
  pub on : (place : ℕ) (d : LayerRule) → start ≤ place → place < end
      → (slice_index_or rules place d).layer ≡ layer
  pub last : (d : LayerRule) → end < length rules → (slice_index_or rules end d).layer ≡ layer → ⊥

-- the rule at each index from `start` up to but not including `end` has an open condition
abbrev pub AreWaiting : List ℕ → List LayerRule → ℕ → ℕ → Type 0
AreWaiting counters rules start end = (place : ℕ) (d : LayerRule) → start ≤ place → place < end
    → 0 < slice_index counters (slice_index_or rules place d).rule

-- the layer of the rule at an index
abbrev pub layer_at : List LayerRule → ℕ → ℕ
layer_at rules place = (slice_index_or rules place (record { layer = 0; rule = 0 })).layer

-- the rule of the layer is at an index from `start` on
pub record StandsFrom (rules : List LayerRule) (start layer rule : ℕ) : Type 0 where
  pub at : ℕ
  pub from_start : start ≤ at
  pub within : at < length rules
  pub is : slice_index_or rules at (record { layer = layer; rule = rule })
      ≡ (let r : LayerRule = record { layer = layer; rule = rule } in r)

-- rules that can fire, each with its layer, in ascending order of their layers; from index `start`
-- on, there are all rules of this layer that have no open conditions
pub record AreReadyFrom (p : Parts) (start layer : ℕ) (counters : List ℕ) (rules : List LayerRule)
    : Type 0 where
  pub within : start < length rules
  pub only : All (λ (r : LayerRule). IsRuleOn p r.layer r.rule) rules
  pub each : (rule : ℕ) → IsRuleOn p layer rule → slice_index counters rule ≡ 0
      → StandsFrom rules start layer rule
  pub ascending : IsNonDecreasingBy (λ (r : LayerRule). r.layer) rules

-- for each variable its rules that can fire, in order
pub record AreRulesOf (p : Parts) (lists : List (List ℕ)) : Type 0 where
  pub one_each : length lists ≡ length p.variables
  pub each : (var : ℕ) → var < length p.variables
      → slice_index_or lists var [] ≡ places (can_give p var) p.rules
