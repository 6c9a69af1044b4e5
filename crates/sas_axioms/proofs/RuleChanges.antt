-- The variables and values in a rule of a task exist.
use Rattle.std.proofs.lemmas.Grind.{common_steps}
use Rattle.sas_axioms.proofs.Imports.{arith, ◌≡◌, ◌≢◌, ◌⊎◌, ℕ, ◌<◌, ◌^◌, true, false, not, nat_eq, Option, Some, List, length, refl, sym, ap, subst, option_eq, eqb_tells, slice_index, All, Fact, Parts, Change, change_of, rule_at, WellRanged, default_of, differs, fact_within, ◌==◌, rule_fits}

module _ (p : Parts) (ranged : WellRanged p) (rule : ℕ) (exists : rule < length p.rules) where
  -- the variable of the rule exists
  pub change_within : (change : Change) → change ≡ change_of (rule_at p rule) → (n : ℕ) → n ≡ length p.variables → change.var < n
  change_within change is n all = rw (is, all) (fact_within p (rule_at p rule).var (rule_at p rule).new (rule_fits p ranged rule exists).new)

  -- also where the rule is that of a task which is equal to this one
  pub var_within : (task : Parts) → task ≡ p → (change : Change) → change ≡ change_of (rule_at task rule)
      → change.var < length task.variables
  var_within task is change of_rule = change_within change (rw is at of_rule) (length task.variables)
      (ap (λ (t : Parts). length t.variables) is)

  pub value_within : (task : Parts) → task ≡ p → (change : Change) → change ≡ change_of (rule_at task rule)
      → (n : ℕ) → n ≡ length p.variables → change.var < n
  value_within task is change of_rule = change_within change (rw is at of_rule)

  -- and so do those of its conditions
  pub conditions_within : (s : List ℕ) → length s ≡ length p.variables → (conditions : List Fact) → conditions ≡ (rule_at p rule).conditions
      → All (λ (f : Fact). f.var < length s) conditions
  conditions_within s one_each conditions are = grind (arith, common_steps, length, fact_within, rule_at, rule_fits)

  -- of which there are few enough to count them
  pub conditions_few : (conditions : List Fact) → conditions ≡ (rule_at p rule).conditions → length conditions < 2 ^ 31
  conditions_few conditions are = subst (λ (cs : List Fact). length cs < 2 ^ 31) (sym are) (rule_fits p ranged rule exists).conditions.count

-- what was read shows whether the variable of the rule differs from its default
pub differs_read : (p : Parts) (s : List ℕ) (rule value default : ℕ) (change : Change) → change ≡ change_of (rule_at p rule)
    → value ≡ slice_index s change.var → default ≡ default_of p change.var → not (nat_eq value default) ≡ differs p s (rule_at p rule).var
differs_read p s rule value default change of_rule is is_default = rw (is, is_default, of_rule) refl

-- the test whether an optional number is the number
pub same_option : (o : Option ℕ) (n : ℕ) → ((o ≡ Some n) × (option_eq ◌==◌ o (Some n) ≡ true)) ⊎ ((o ≢ Some n) × (option_eq ◌==◌ o (Some n) ≡ false))
same_option h1 n = grind (arith, eqb_tells)
