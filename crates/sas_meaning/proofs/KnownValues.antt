-- The stored new values of the rules before an index: whether the rule at the index agrees with
-- them, and what is stored after it.
use Rattle.sas_meaning.proofs.Imports.{common_steps, rules, ◌≡◌, ◌≢◌, ℕ, ◌+◌, ◌<◌, ◌≤◌, ◌⊎◌, inl, inr, ◌==◌, Bool, true, false, List, length, take, slice_index_or, slice_set, Option, Some, None, refl, ◌∙◌, arith, eqb-true, eq-eqb, below_more, false_from_ne_true, option_map_or, Effect, Parts, rule_at, CanFire, agrees_with, IsGiverBefore, NewValues}
use Rattle.std.proofs.Common.{length-set, get_or-set_same, get_or-set_other}
use Rattle.sas_meaning.proofs.RuleTests.{agrees_with_earlier}

same_or_other : (a b : ℕ) (same : Bool) → (a == b) ≡ same → (a ≡ b) ⊎ (a ≢ b)
same_or_other a b true is = inl (eqb-true a b is)
same_or_other a b false is = inr (λ same. let yes : (a == b) ≡ true = eq-eqb a b same in absurd (cc))

module _ (p : Parts) (place : ℕ) (values : List (Option ℕ)) (known : NewValues p place values) where
  -- the value of an earlier rule that can fire
  value_of : (var : ℕ) (value : Option ℕ) → slice_index_or values var None ≡ value → (k : ℕ) → k < place → CanFire p (rule_at p k) → (rule_at p k).var ≡ var → Some (rule_at p k).new ≡ value
  value_of var value is k before can same = grind (arith, common_steps)

  module _ (rule : Effect) (within : place ≤ length p.rules) where
    -- the value that is known is the rule's
    all_same : (value : ℕ) → slice_index_or values rule.var None ≡ Some value → (value == rule.new) ≡ true → (k : ℕ) → k < place → CanFire p (rule_at p k) → (rule_at p k).var ≡ rule.var → (rule_at p k).new ≡ rule.new
    all_same value is same k before can at = grind (arith, common_steps, value_of, eqb-true)

    -- the value that is known is another one
    one_differs : (value : ℕ) → slice_index_or values rule.var None ≡ Some value → (value == rule.new) ≡ false → agrees_with p (take place p.rules) rule ≡ true → ⊥
    one_differs value is differ test = grind (arith, common_steps, agrees_with_earlier, eq-eqb)

    by_test : (value : ℕ) (same : Bool) → slice_index_or values rule.var None ≡ Some value → (value == rule.new) ≡ same → agrees_with p (take place p.rules) rule ≡ same
    by_test value true is same = (agrees_with_earlier p rule place within).1 (all_same value is same)
    by_test value false is differ = false_from_ne_true _ (one_differs value is differ)

    agrees_by : (value : Option ℕ) → slice_index_or values rule.var None ≡ value → agrees_with p (take place p.rules) rule ≡ option_map_or (λ its. its == rule.new) value true
    agrees_by h1 is = grind (arith, agrees_with_earlier, value_of, by_test)

    -- the test whether the rule agrees with the rules before the place, by the value that is known
    -- of its variable
    pub agrees_by_value : agrees_with p (take place p.rules) rule ≡ option_map_or (λ its. its == rule.new) (slice_index_or values rule.var None) true
    agrees_by_value = agrees_by (slice_index_or values rule.var None) refl

  later : {rule var value : ℕ} → IsGiverBefore p place rule var value → IsGiverBefore p (place + 1) rule var value
  later gives = grind (arith, common_steps)

  -- the rule at the place can fire, and its new value is written
  module _ (can : CanFire p (rule_at p place)) (agrees : option_map_or (λ its. its == (rule_at p place).new) (slice_index_or values (rule_at p place).var None) true ≡ true) (below : (rule_at p place).var < length values) where
    abbrev written : List (Option ℕ)
    written = slice_set values (rule_at p place).var (Some (rule_at p place).new)

    same_value : (value : Option ℕ) (new : ℕ) → option_map_or (λ its. its == (rule_at p place).new) value true ≡ true → Some new ≡ value → Some (rule_at p place).new ≡ Some new
    same_value h1 new test is = grind (arith, eqb-true, rule_at)

    still : (k : ℕ) → k < place → CanFire p (rule_at p k) → ((rule_at p k).var ≡ (rule_at p place).var) ⊎ ((rule_at p k).var ≢ (rule_at p place).var) → slice_index_or written (rule_at p k).var None ≡ Some (rule_at p k).new
    still k before can_too h1 = grind (arith, get_or-set_same, same_value, value_of, get_or-set_other)

    only_known : (var value : ℕ) → slice_index_or written var None ≡ Some value → (var ≡ (rule_at p place).var) ⊎ (var ≢ (rule_at p place).var) → (k : ℕ) × IsGiverBefore p (place + 1) k var value
    only_known var value is h1 = grind (arith, get_or-set_same, rules, get_or-set_other, later)

    -- what is known behind it
    pub known_behind : NewValues p (place + 1) (slice_set values (rule_at p place).var (Some (rule_at p place).new))
    known_behind = grind (arith, common_steps, length-set, below_more, still, same_or_other, get_or-set_same, only_known)
