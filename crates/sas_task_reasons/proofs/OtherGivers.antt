-- The other giver of a rule's variable, where a rule before it has another new value.
use Rattle.std.proofs.lemmas.Grind.{common_steps}
use Rattle.sas_task_reasons.proofs.Imports.{◌≡◌, ◌≢◌, ℕ, ◌<◌, ◌≤◌, ◌==◌, Bool, true, false, cond, [], length, take, sym, ap, ◌∙◌, arith, eqb-true, eq-eqb, Some, None, ◌&&◌, not, position_or_len, lt-ltb, cases_lt, fails_before_first, passes_at_first, Effect, Parts, rule_at, CanFire, can_fire, agrees_with, fires, agrees_with_earlier, IsOtherGiver, IsNamedOther}

abbrev none : Effect
none = record { conditions = []; var = 0; old = None; new = 0 }

-- ---- the test

-- whether the other rule is of the same variable, can fire, and has another new value
abbrev pub gives_other : Parts → Effect → Effect → Bool
gives_other p rule other = (other.var == rule.var) && (can_fire p other && not (other.new == rule.new))

all_true : (a b c : Bool) → (a && (b && not c)) ≡ true → (a ≡ true) × (b ≡ true) × (c ≡ false)
all_true a b c e = grind arith

so_all : (a b c : Bool) → a ≡ true → b ≡ true → c ≡ false → (a && (b && not c)) ≡ true
so_all a b c x y z = grind arith

not_all : (a b c : Bool) → (a && (b && not c)) ≡ false → a ≡ true → b ≡ true → c ≡ true
not_all a b c e x y = grind arith

differ : (m n : ℕ) → (m == n) ≡ false → m ≢ n
differ m n e same = let yes : (m == n) ≡ true = eq-eqb m n same in absurd cc

differs : (m n : ℕ) → m ≢ n → (m == n) ≡ false
differs m n other = grind arith

module _ (p : Parts) (rule other : Effect) where
  pub gives_shows : gives_other p rule other ≡ true → IsOtherGiver p rule other
  gives_shows e = grind (arith, common_steps, all_true, eqb-true, fires, differs, differ)

  pub giver_passes : IsOtherGiver p rule other → gives_other p rule other ≡ true
  giver_passes g = grind (arith, common_steps, so_all, eq-eqb, fires, differs)

  agrees : gives_other p rule other ≡ false → CanFire p other → other.var ≡ rule.var → other.new ≡ rule.new
  agrees e can same = grind (arith, eqb-true, not_all, can_fire, eq-eqb, fires)

-- ---- the lowest

module _ (p : Parts) (place : ℕ) (within : place < length p.rules) where
  abbrev rule : Effect
  rule = rule_at p place

  abbrev lowest : ℕ
  lowest = position_or_len (gives_other p rule) p.rules

  below : (k : ℕ) → k < lowest → gives_other p rule (rule_at p k) ≡ false
  below k less = fails_before_first (gives_other p rule) p.rules k none less

  -- where no rule before it gives another value, all agree
  all_agree : place ≤ lowest → agrees_with p (take place p.rules) rule ≡ true
  all_agree past = (agrees_with_earlier p rule place (omega (arith, within))).1 (λ k before. agrees p rule (rule_at p k) (below k (omega (arith, before, past))))

  is_named : lowest < place → IsNamedOther p place lowest
  is_named before =
      let exists : lowest < length p.rules = omega (arith, before, within) in record {
        named = ap (λ (b : Bool). cond b (Some lowest) None) (lt-ltb lowest (length p.rules) exists);
        before = before;
        gives = gives_shows p rule (rule_at p lowest) (passes_at_first (gives_other p rule) p.rules none exists);
        lowest = λ lower less gives.
            let passes = giver_passes p rule (rule_at p lower) gives in
            let fails = below lower less in
            absurd (let apart : true ≡ false = sym passes ∙ fails in cc);
      }

  pub other_named : agrees_with p (take place p.rules) rule ≡ false → (other : ℕ) × IsNamedOther p place other
  other_named disagrees = grind (arith, common_steps, cases_lt, is_named, all_agree)
