-- All that the lines of reasons name exists, where the fault is the first of a task's layers.
use Rattle.std.proofs.Common.{arith}
use Rattle.std.proofs.lemmas.Grind.{common_steps}
use Rattle.sas_task_reasons.proofs.GroupReasons.{is_basic}
use Rattle.sas_task_reasons.proofs.Imports.{◌≡◌, ℕ, ◌<◌, ◌==◌, Bool, true, false, List, [], length, take, get_or, subst, inl, inr, eq-eqb, Option, None, if◌then◌else◌, not, is_some, IsSome, option_map_or, Fact, Effect, Operator, Parts, Check, check, operator_at, effect_at, rule_at, layer_of, LayerFault, EffectOnDerived, OldValue, TwoValues, LayerOrder, IsNamedOld, IsWhole, LayerReasonsAreWhole, default_of, can_fire, numbered_checks, effect_layer_checks, operator_layer_checks, agrees_with, looks_down, firing_checks, rule_layer_checks, layer_checks}
use Rattle.sas_task_reasons.proofs.FailingChecks.{IsFirst, check_fails, guarded_fails, either_fails, numbered_fails}
use Rattle.sas_task_reasons.proofs.OtherGivers.{other_named}

-- ---- tests that fail

has_layer : (layer : Option ℕ) → not (is_some layer) ≡ false → IsSome layer
has_layer h1 e = grind arith

both_layers : (a b : Option ℕ) (test : ℕ → ℕ → Bool) → option_map_or (λ here. option_map_or (λ its. test here its) b true) a true ≡ false → IsSome a × IsSome b
both_layers h1 b test e = grind arith

module _ (p : Parts) where
  old_named : (rule : Effect) (old : Option ℕ) → rule.old ≡ old → option_map_or (λ its. its == default_of p rule.var) old true ≡ false → IsNamedOld p rule
  old_named rule h1 is e = grind (arith, eq-eqb)

  -- ---- operators

  abbrev no_operator : Operator
  no_operator = record { name = []; prevail = []; effects = []; cost = 0 }

  abbrev no_effect : Effect
  no_effect = record { conditions = []; var = 0; old = None; new = 0 }

  operator_whole : (operator : ℕ) (e : LayerFault) → operator < length p.operators → IsFirst (operator_layer_checks p operator (operator_at p operator)) e → IsWhole p e
  operator_whole operator e within is =
      let o = operator_at p operator in
      let at = numbered_fails (effect_layer_checks p operator) no_effect o.effects e is in
      let layer = layer_of p.variables (effect_at o at.place).var in
      let fails = check_fails (not (is_some layer)) (EffectOnDerived operator at.place) e at.fails in
      subst (IsWhole p) fails.1 (within, at.within, has_layer layer fails.0)

  -- ---- rules

  abbrev no_rule : Effect
  no_rule = record { conditions = []; var = 0; old = None; new = 0 }

  abbrev no_fact : Fact
  no_fact = record { var = 0; value = 0 }

  module _ (place : ℕ) (within : place < length p.rules) (e : LayerFault) where
    abbrev rule : Effect
    rule = rule_at p place

    abbrev old_checks : List (Check LayerFault)
    old_checks = check (option_map_or (λ old. old == default_of p rule.var) rule.old true) (OldValue place)

    abbrev value_checks : List (Check LayerFault)
    value_checks = check (agrees_with p (take place p.rules) rule) (TwoValues place)

    abbrev order_check : ℕ → Fact → List (Check LayerFault)
    order_check condition c = check (looks_down p rule.var c) (LayerOrder place condition)

    old_whole : IsFirst old_checks e → IsWhole p e
    old_whole is = grind (arith, common_steps, check_fails, old_named)

    value_whole : IsFirst value_checks e → IsWhole p e
    value_whole is = grind (arith, common_steps, check_fails, other_named)

    order_whole : IsFirst (numbered_checks order_check rule.conditions) e → IsWhole p e
    order_whole is =
        let at = numbered_fails order_check no_fact rule.conditions e is in
        let c = get_or rule.conditions at.place no_fact in
        let fails = check_fails (looks_down p rule.var c) (LayerOrder place at.place) e at.fails in
        let layers = both_layers (layer_of p.variables rule.var) (layer_of p.variables c.var) _ fails.0 in
        subst (IsWhole p) fails.1 (within, at.within, layers.0, layers.1)

    firing_whole : IsFirst (firing_checks p place rule) e → IsWhole p e
    firing_whole is = grind (arith, common_steps, either_fails, old_whole, value_whole, order_whole) steps 1500000

    rule_whole : IsFirst (rule_layer_checks p place rule) e → IsWhole p e
    rule_whole is = grind (arith, layer_of, firing_checks, either_fails, check, is_some, can_fire, check_fails, is_basic, firing_whole, guarded_fails)

  whole : (e : LayerFault) → IsFirst (layer_checks p) e → IsWhole p e
  whole e is = elim (either_fails (numbered_checks (operator_layer_checks p) p.operators) (numbered_checks (rule_layer_checks p) p.rules) e is) [
    | inl first ↦ (let at = numbered_fails (operator_layer_checks p) no_operator p.operators e first in operator_whole at.place e at.within at.fails)
    | inr behind ↦ (let at = numbered_fails (rule_layer_checks p) no_rule p.rules e behind.1 in rule_whole at.place at.within e at.fails)
  ]

pub reasons_are_whole : LayerReasonsAreWhole
reasons_are_whole p fault is = whole p fault is
