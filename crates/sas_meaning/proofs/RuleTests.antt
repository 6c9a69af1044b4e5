-- The tests of a rule, and what they imply for the rules at their indexes.
use Rattle.sas_meaning.proofs.Imports.{common_steps, ◌≡◌, ℕ, ◌<◌, ◌≤◌, ◌==◌, ◌&&◌, ◌||◌, ◌↔◌, Bool, true, false, not, length, take, get_or, refl, sym, ap, ◌∙◌, arith, eqb-true, eq-eqb, get_or-take, get_or_default, length-take-le, AllPass-from_list_all, list_all-from_AllPass, AllPass, list_all, Effect, Parts, rule_at, CanFire, can_fire, agrees_with}

differs : (a b : ℕ) (same : Bool) → (a == b) ≡ same → (not same ≡ true) ↔ (a ≡ b → ⊥)
differs a b true is = (λ test. absurd (cc), λ differ. absurd (differ (eqb-true a b is)))
differs a b false is = (λ test same. let yes : (a == b) ≡ true = eq-eqb a b same in absurd (cc), λ differ. refl)

-- the test whether a rule can fire
pub fires : (p : Parts) (rule : Effect) → (can_fire p rule ≡ true) ↔ CanFire p rule
fires p rule = differs _ _ _ refl

passes : (a b c : Bool) → (a ≡ true → b ≡ true → c ≡ true) → (not (a && b) || c) ≡ true
passes true true c so = so refl refl
passes true false c so = refl
passes false b c so = refl

says : (a b c : Bool) → (not (a && b) || c) ≡ true → a ≡ true → b ≡ true → c ≡ true
says true true c test a_is b_is = test
says true false c test a_is b_is = absurd (cc)
says false b c test a_is b_is = absurd (cc)

module _ (p : Parts) (rule : Effect) (place : ℕ) (within : place ≤ length p.rules) where
  -- what the rule asks of an earlier one
  abbrev Agrees : Effect → Type 0
  Agrees other = CanFire p other → other.var ≡ rule.var → other.new ≡ rule.new

  abbrev agrees : Effect → Bool
  agrees other = not ((other.var == rule.var) && can_fire p other) || (other.new == rule.new)

  agrees_so : (other : Effect) → agrees other ≡ true → Agrees other
  agrees_so other test can same = grind (arith, common_steps, eqb-true, says, eq-eqb)

  so_agrees : (other : Effect) → Agrees other → agrees other ≡ true
  so_agrees other so = grind (arith, common_steps, passes, eq-eqb, eqb-true)

  earlier : (k : ℕ) (d : Effect) → k < place → get_or (take place p.rules) k d ≡ rule_at p k
  earlier k d before = get_or-take place p.rules k d before ∙ get_or_default p.rules k d _ (omega arith)

  each_agrees : list_all agrees (take place p.rules) ≡ true → (k : ℕ) → k < place → Agrees (rule_at p k)
  each_agrees test k before =
      agrees_so (rule_at p k) (ap agrees (sym (earlier k rule before)) ∙ AllPass-from_list_all agrees (take place p.rules) test k rule (omega (arith, length-take-le place p.rules within)))

  all_agree : ((k : ℕ) → k < place → Agrees (rule_at p k)) → AllPass agrees (take place p.rules)
  all_agree each k d below = grind (arith, common_steps, length-take-le, earlier, so_agrees)

  -- the test whether the rule agrees with the rules before the place
  pub agrees_with_earlier : (agrees_with p (take place p.rules) rule ≡ true) ↔ ((k : ℕ) → k < place → Agrees (rule_at p k))
  agrees_with_earlier = (each_agrees, λ each. list_all-from_AllPass agrees (take place p.rules) (all_agree each))
