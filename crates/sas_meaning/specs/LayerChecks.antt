-- The conditions for layered tasks as checks in order, each with the fault that it reports.
use Rattle.std.specs.Prelude.{◌≡◌, ◌↔◌, ℕ, ◌==◌, ◌&&◌, ◌||◌, Bool, not, nat_lt, nat_le}
use Rattle.std.specs.Prelude.{if◌then◌else◌, is_some, true, List, [], ◌++◌, take, flat_map, None}
use Rattle.std.specs.List.{list_all, enumerate_from}
use Rattle.std.specs.Option.{option_map_or}
use Rattle.sas_core.specs.declared.parts.Fact.{Fact}
use Rattle.sas_core.specs.declared.parts.Effect.{Effect}
use Rattle.sas_core.specs.declared.parts.Operator.{Operator}
use Rattle.sas_core.specs.declared.parts.Parts.{Parts}
use Rattle.sas_core.specs.FirstFault.{Check, first_fault, check}
use Rattle.sas_core.specs.Variables.{layer_of}
use Rattle.sas_meaning.specs.declared.layered.LayerFault.{LayerFault}
use Rattle.sas_meaning.specs.declared.layered.LayerFault.TheVariants.{EffectOnDerived, RuleOnBasic, OldValue, TwoValues, LayerOrder}
use Rattle.sas_meaning.specs.Layers.{default_of, can_fire, IsLayered}

-- the checks of all items in order; the checks of an item may use its index
abbrev pub numbered_checks : {A : Type 0} → (ℕ → A → List (Check LayerFault)) → List A
    → List (Check LayerFault)
numbered_checks checks_of items = flat_map
    (λ (place, item). checks_of place item) (enumerate_from 0 items)

-- ---- operators

abbrev pub effect_layer_checks : Parts → ℕ → ℕ → Effect → List (Check LayerFault)
effect_layer_checks p operator effect e =
    check (not (is_some (layer_of p.variables e.var))) (EffectOnDerived operator effect)

abbrev pub operator_layer_checks : Parts → ℕ → Operator → List (Check LayerFault)
operator_layer_checks p operator o = numbered_checks (effect_layer_checks p operator) o.effects

-- ---- rules

-- whether all earlier rules of the same variable that can fire have the same new value
abbrev pub agrees_with : Parts → List Effect → Effect → Bool
agrees_with p earlier rule =
    list_all (λ (other : Effect). not ((other.var == rule.var) && can_fire p other)
    || (other.new == rule.new)) earlier

-- whether a condition of a rule for variable `var` follows the order of layers
abbrev pub looks_down : Parts → ℕ → Fact → Bool
looks_down p var condition =
    option_map_or (λ here.
    option_map_or (λ its.
    if condition.value == default_of p condition.var then nat_lt its here else nat_le its here)
    (layer_of p.variables condition.var) true)
    (layer_of p.variables var) true

-- the checks of a rule that can fire
abbrev pub firing_checks : Parts → ℕ → Effect → List (Check LayerFault)
firing_checks p place rule =
    check (option_map_or (λ old. old == default_of p rule.var) rule.old true) (OldValue place)
    ++ check (agrees_with p (take place p.rules) rule) (TwoValues place)
    ++ numbered_checks (λ condition c. check (looks_down p rule.var c) (LayerOrder place condition))
    rule.conditions

abbrev pub rule_layer_checks : Parts → ℕ → Effect → List (Check LayerFault)
rule_layer_checks p place rule =
    check (is_some (layer_of p.variables rule.var)) (RuleOnBasic place)
    ++ (if can_fire p rule then firing_checks p place rule else [])

-- all checks of a task: those of the operators, then those of the rules
abbrev pub layer_checks : Parts → List (Check LayerFault)
layer_checks p =
    numbered_checks (operator_layer_checks p) p.operators
    ++ numbered_checks (rule_layer_checks p) p.rules

-- a task is layered if and only if all checks pass
abbrev pub LayerChecksAreTheRules : Type 0
LayerChecksAreTheRules = (p : Parts) → (first_fault (layer_checks p) ≡ None) ↔ IsLayered p
