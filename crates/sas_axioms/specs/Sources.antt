-- The source of a derived variable: the rule that set it.
use Rattle.std.specs.Prelude.{◌≡◌, ℕ, ◌<◌, IsTrue, List, All, slice_index}
use Rattle.sas_core.specs.declared.parts.Fact.{Fact}
use Rattle.sas_core.specs.declared.parts.Parts.{Parts}
use Rattle.sas_core.specs.Grounded.{rule_at}
use Rattle.sas_meaning.specs.States.{AllHold}
use Rattle.sas_meaning.specs.Layers.{IsOnLayer}
use Rattle.sas_meaning.specs.Settled.{differs, new_value_of}
use Rattle.sas_axioms.specs.LayerRules.{IsRuleOn}

-- all conditions of the rule hold
abbrev pub IsHolding : Parts → List ℕ → ℕ → Type 0
IsHolding p s rule = AllHold (slice_index s) (rule_at p rule).conditions

-- the rule sets the variable, and its conditions on the same layer are on variables of lower rank
pub record IsSourceOf (p : Parts) (layer : ℕ) (rank : ℕ → ℕ) (var rule : ℕ) : Type 0 where
  pub is : IsRuleOn p layer rule
  pub sets : (rule_at p rule).var ≡ var
  pub lower : All (λ (c : Fact). IsOnLayer p layer c.var → rank c.var < rank var)
      (rule_at p rule).conditions

-- Each variable of the layer that differs from its default has the new value of its rules, and a
-- source. No source depends on its own variable: with suitable ranks, each depends only on
-- variables of lower rank.
pub record HaveSources (p : Parts) (layer : ℕ) (s sources : List ℕ) : Type 0 where
  pub rank : ℕ → ℕ
  pub source : (var : ℕ) → IsOnLayer p layer var → IsTrue (differs p s var)
      → IsSourceOf p layer rank var (slice_index sources var)
  pub new : (var : ℕ) → IsOnLayer p layer var → IsTrue (differs p s var)
      → slice_index s var ≡ new_value_of p var

-- the sources of the layer's variables that differ from their defaults in s hold in s'
abbrev pub SourcesHold : Parts → ℕ → List ℕ → List ℕ → List ℕ → Type 0
SourcesHold p layer sources s s' = (var : ℕ) → IsOnLayer p layer var → IsTrue (differs p s var)
    → IsHolding p s' (slice_index sources var)

-- each variable of the layer that differs from its default was set by its source, which holds
pub record AreGiven (p : Parts) (layer : ℕ) (s sources : List ℕ) : Type 0 where
  pub have : HaveSources p layer s sources
  pub hold : SourcesHold p layer sources s s

-- the sources of variables on other layers are unchanged
abbrev pub SameSourcesOff : Parts → ℕ → List ℕ → List ℕ → Type 0
SameSourcesOff p layer sources sources' = (var : ℕ) → (IsOnLayer p layer var → ⊥)
    → slice_index sources' var ≡ slice_index sources var
