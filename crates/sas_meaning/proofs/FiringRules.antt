-- A rule that can fire: the tests of it by what is known of the rules before it, and which of its checks is the first to fail.
use Rattle.sas_meaning.proofs.Imports.{common_steps, ◌≡◌, ◌∙◌, ℕ, ◌+◌, ◌<◌, ◌==◌, Bool, true, false, List, length, take, slice_index, slice_index_or, slice_set, Option, Some, None, refl, sym, arith, option_map_or, Change, Effect, Parts, Check, first_fault, check, rule_at, change_of, WellRanged, fails_before, decides_after, rule_fits, LayerFault, OldValue, TwoValues, LayerOrder, CanFire, default_of, numbered_checks, agrees_with, looks_down, firing_checks, NewValues}
use Rattle.sas_meaning.proofs.Forced.{fact_within}
use Rattle.sas_meaning.proofs.NumberedChecks.{same_check}
use Rattle.sas_meaning.proofs.KnownValues.{agrees_by_value, known_behind}

passed : (passes : Bool) (e : LayerFault) → None ≡ first_fault (check passes e) → passes ≡ true
passed true e none = refl
passed false e none = absurd (cc)

-- the checks of the conditions of a rule
abbrev pub condition_checks : Parts → ℕ → Effect → List (Check LayerFault)
condition_checks p place rule =
    numbered_checks (λ condition c. check (looks_down p rule.var c) (LayerOrder place condition)) rule.conditions

-- the rule at a place, and what it changes
module _ (p : Parts) (place : ℕ) (change : Change) (is : change ≡ change_of (rule_at p place)) (below : place < length p.rules) where
  pub var_exists : WellRanged p → change.var < length p.variables
  var_exists ranged = grind (arith, common_steps, fact_within, rule_fits)

  -- the test of its old value, which passes or not
  module _ (passes : Bool) (default : ℕ) (its : default ≡ slice_index p.init change.var) (test : passes ≡ option_map_or (λ old. old == default) change.old true) where
    old_test : passes ≡ option_map_or (λ old. old == default_of p (rule_at p place).var) (rule_at p place).old true
    old_test = grind (arith, common_steps, option_map_or)

    -- and the test of its new value by what is known of the rules before it
    module _ (values : List (Option ℕ)) (known : NewValues p place values) (agrees : Bool) (value : Option ℕ) (known_value : value ≡ slice_index_or values change.var None) (test_of_new : agrees ≡ option_map_or (λ its. its == change.new) value true) where
      value_test : agrees ≡ option_map_or (λ its. its == (rule_at p place).new) (slice_index_or values (rule_at p place).var None) true
      value_test = grind (arith, common_steps, option_map_or)

      others_test : agrees ≡ agrees_with p (take place p.rules) (rule_at p place)
      others_test = value_test ∙ sym (agrees_by_value p place values known (rule_at p place) (omega arith))

      module _ (old_passes : None ≡ first_fault (check passes (OldValue place))) where
        -- another new value is known
        pub others_fail : (e : LayerFault) → Some e ≡ first_fault (check agrees (TwoValues place)) → Some e ≡ first_fault (firing_checks p place (rule_at p place))
        others_fail e some = grind (arith, common_steps, option_map_or, same_check, old_test, others_test, decides_after, fails_before)

        module _ (new_passes : None ≡ first_fault (check agrees (TwoValues place))) where
          -- both tests pass
          pub conditions_decide : (found : Option LayerFault) → found ≡ first_fault (condition_checks p place (rule_at p place)) → found ≡ first_fault (firing_checks p place (rule_at p place))
          conditions_decide found some = grind (arith, common_steps, option_map_or, same_check, old_test, others_test, decides_after)

          -- and its new value is written
          pub known_then : (new : List (Option ℕ)) → CanFire p (rule_at p place) → change.var < length values → new ≡ slice_set values change.var (Some change.new) → NewValues p (place + 1) new
          known_then new can within set = grind (arith, common_steps, known_behind, value_test, passed)
