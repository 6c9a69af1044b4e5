-- Consequences of the definitions: reasons exist and are unique, and none of their lines is left out.
use Rattle.std.specs.Prelude.{◌≡◌, ◌≢◌, ℕ, ◌<◌, length, Some}
use Rattle.sas_core.specs.declared.parts.Parts.{Parts}
use Rattle.sas_core.specs.declared.parts.Effect.{Effect}
use Rattle.sas_core.specs.FirstFault.{first_fault}
use Rattle.sas_core.specs.Grounded.{operator_at, effect_at, rule_at}
use Rattle.sas_core.specs.Variables.{IsDerived}
use Rattle.sas_meaning.specs.declared.layered.LayerFault.{LayerFault}
use Rattle.sas_meaning.specs.declared.layered.LayerFault.TheVariants.{EffectOnDerived, RuleOnBasic, OldValue, TwoValues, LayerOrder, Memory}
use Rattle.sas_meaning.specs.LayerChecks.{layer_checks}
use Rattle.sas_meaning.specs.Layers.{CanFire, IsBasic, default_of}
use Rattle.sas_task_reasons.specs.WhyLayers.{other_giver}
use Rattle.sas_task_reasons.specs.WhyGroups.{fact_at}

-- ---- why a task isn't layered

-- a rule is of the same variable as this one, can fire, and has another new value
pub record IsOtherGiver (p : Parts) (rule other : Effect) : Type 0 where
  pub its_var : other.var ≡ rule.var
  pub can_fire : CanFire p other
  pub differs : other.new ≢ rule.new

-- the other rule in the reasons for the rule at this place is the lowest, and comes before it
pub record IsNamedOther (p : Parts) (rule other : ℕ) : Type 0 where
  pub named : other_giver p (rule_at p rule) ≡ Some other
  pub before : other < rule
  pub gives : IsOtherGiver p (rule_at p rule) (rule_at p other)
  pub lowest : (lower : ℕ) → lower < other → IsOtherGiver p (rule_at p rule) (rule_at p lower) → ⊥

-- the old value in the reasons for a rule isn't the default of its variable
pub record IsNamedOld (p : Parts) (rule : Effect) : Type 0 where
  pub old : ℕ
  pub named : rule.old ≡ Some old
  pub differs : old ≢ default_of p rule.var

-- the parts that the lines for a fault name exist, and so do the layers, the old value and the
-- other rule
abbrev pub IsWhole : Parts → LayerFault → Type 0
IsWhole p (EffectOnDerived operator effect) =
    (operator < length p.operators)
    × (effect < length (operator_at p operator).effects)
    × IsDerived p.variables (effect_at (operator_at p operator) effect).var
IsWhole p (RuleOnBasic rule) = (rule < length p.rules) × IsBasic p (rule_at p rule).var
IsWhole p (OldValue rule) = (rule < length p.rules) × IsNamedOld p (rule_at p rule)
IsWhole p (TwoValues rule) = (rule < length p.rules) × ((other : ℕ) × IsNamedOther p rule other)
IsWhole p (LayerOrder rule condition) =
    (rule < length p.rules)
    × (condition < length (rule_at p rule).conditions)
    × IsDerived p.variables (rule_at p rule).var
    × IsDerived p.variables (fact_at (rule_at p rule).conditions condition).var
IsWhole p Memory = ⊥

-- so it is of the first fault of a task
abbrev pub LayerReasonsAreWhole : Type 0
LayerReasonsAreWhole = (p : Parts) (fault : LayerFault)
    → first_fault (layer_checks p) ≡ Some fault → IsWhole p fault
