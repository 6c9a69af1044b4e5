-- All layer checks pass if and only if the task is layered: each check is equivalent to its rule.
use Rattle.sas_meaning.proofs.Imports.{common_steps, rules, ◌≡◌, ℕ, zero, suc, ◌+◌, ◌<◌, ◌≤◌, ◌==◌, ◌↔◌, Bool, true, false, nat_lt, nat_le, if◌then◌else◌, List, [], ◌∷◌, length, flat_map, get_or, ◌⊎◌, inl, inr, not, Option, Some, None, refl, sym, ap, ◌∙◌, subst, arith, eqb-true, eq-eqb, ltb-true, lt-ltb, leb-true, le-leb, get_or_default, cases_lt, enumerate_from, option_map_or, is_some, Effect, Operator, LayerFault, LayerOrder, IsBasic, default_of, CanFire, LooksDown, IsLayeredRule, IsLayered, numbered_checks, effect_layer_checks, operator_layer_checks, looks_down, firing_checks, rule_layer_checks, layer_checks, LayerChecksAreTheRules, Parts, Pass, by_test, split_row, join_row, and_then, Check, first_fault, check, rule_at, IsDerived}
use Rattle.std.proofs.Common.{All}
use Rattle.sas_meaning.proofs.RuleTests.{agrees_with_earlier}

-- checks that are made only where a test says so
where_so : (so : Bool) (row : List (Check LayerFault)) (C P : Type 0) → (so ≡ true) ↔ C → Pass row ↔ P → Pass (if so then row else []) ↔ (C → P)
where_so true row C P is same = (λ pass _. same.0 pass, λ f. same.1 (f (is.0 refl)))
where_so false row C P is same = (λ pass c. let so : false ≡ true = is.1 c in absurd (cc), λ f. record { none = refl })

-- ---- the items of a list, each named by its place

module _ {A : Type 0} (checks_of : ℕ → A → List (Check LayerFault)) where
  moved : (n m : ℕ) (item : A) → n ≡ m → Pass (checks_of n item) → Pass (checks_of m item)
  moved n m item same pass = record { none = ap (λ k. first_fault (checks_of k item)) (sym same) ∙ pass.none }

  abbrev Each : ℕ → List A → Type 0
  Each n items = (place : ℕ) (d : A) → place < length items → Pass (checks_of (n + place) (get_or items place d))

  each_from : (n : ℕ) (item : A) (items : List A) → Pass (checks_of n item) → Each (n + 1) items → (place : ℕ) (d : A) → place < length (item ∷ items) → Pass (checks_of (n + place) (get_or (item ∷ items) place d))
  each_from n item items first rest zero d below = moved n (n + 0) item (omega arith) first
  each_from n item items first rest (suc place) d below = grind (arith, common_steps, moved)

  passes_each : (n : ℕ) (items : List A) → Pass (flat_map (λ (place, item). checks_of place item) (enumerate_from n items)) → Each n items
  passes_each n [] pass = λ place d below. absurd (omega arith)
  passes_each n (item ∷ items) pass =
      let both = split_row (checks_of n item) (flat_map (λ (place, item). checks_of place item) (enumerate_from (n + 1) items)) pass.none in
      each_from n item items (record { none = both.0 }) (passes_each (n + 1) items (record { none = both.1 }))

  each_passes : (n : ℕ) (items : List A) → Each n items → Pass (flat_map (λ (place, item). checks_of place item) (enumerate_from n items))
  each_passes n [] each = record { none = refl }
  each_passes n (item ∷ items) each =
      let first = moved (n + 0) n item (omega arith) (each 0 item (omega arith)) in
      let rest = each_passes (n + 1) items (λ place d below. moved (n + suc place) (n + 1 + place) (get_or items place d) (omega arith) (each (suc place) d (omega arith))) in
      record { none = join_row (checks_of n item) (flat_map (λ (place, item). checks_of place item) (enumerate_from (n + 1) items)) first.none rest.none }

  -- the checks of all items pass exactly where those of the item at each place do
  numbered_pass : (items : List A) → Pass (numbered_checks checks_of items) ↔ ((place : ℕ) (d : A) → place < length items → Pass (checks_of place (get_or items place d)))
  numbered_pass items = grind (arith, common_steps, moved, passes_each, each_passes)

  -- where the checks of an item say the same at each place
  all_follow : (Follows : A → Type 0) (items : List A) → ((place : ℕ) (item : A) → Pass (checks_of place item) ↔ Follows item) → Pass (numbered_checks checks_of items) ↔ All Follows items
  all_follow Follows items same = grind (arith, common_steps, numbered_pass)

-- ---- operators

no_layer : (layer : Option ℕ) → (not (is_some layer) ≡ true) ↔ (layer ≡ None)
no_layer h1 = grind arith

effect_follows : (p : Parts) (operator effect : ℕ) (e : Effect) → Pass (effect_layer_checks p operator effect e) ↔ IsBasic p e.var
effect_follows p operator effect e = grind (arith, common_steps, by_test, not, is_some, no_layer)

operator_follows : (p : Parts) (operator : ℕ) (o : Operator) → Pass (operator_layer_checks p operator o) ↔ All (λ (e : Effect). IsBasic p e.var) o.effects
operator_follows p operator o = search (rules, arith, all_follow, effect_follows)

-- ---- rules

old_is : (old : Option ℕ) (default : ℕ) → (option_map_or (λ its. its == default) old true ≡ true) ↔ ((value : ℕ) → old ≡ Some value → value ≡ default)
old_is h1 default = grind (arith, eqb-true, eq-eqb)

module _ (here its value default : ℕ) where
  abbrev IsDown : Type 0
  IsDown = (its ≤ here) × (value ≡ default → its < here)

  is_down : (same : Bool) → (value == default) ≡ same → ((if same then nat_lt its here else nat_le its here) ≡ true) ↔ IsDown
  is_down true same = grind (arith, common_steps, ltb-true, lt-ltb, eqb-true)
  is_down false differ = grind (arith, common_steps, leb-true, eq-eqb, le-leb)

down_is : (here its : Option ℕ) (value default : ℕ) → (option_map_or (λ here. option_map_or (λ its. if value == default then nat_lt its here else nat_le its here) its true) here true ≡ true) ↔ ((h i : ℕ) → here ≡ Some h → its ≡ Some i → (i ≤ h) × (value ≡ default → i < h))
down_is h1 its value default = grind (arith, is_down)

module _ (p : Parts) where
  conditions_follow : (place : ℕ) (rule : Effect) → Pass (numbered_checks (λ condition c. check (looks_down p rule.var c) (LayerOrder place condition)) rule.conditions) ↔ All (LooksDown p rule.var) rule.conditions
  conditions_follow place rule = search (rules, arith, all_follow, by_test, down_is)

  -- what the checks of a rule that can fire say of it
  abbrev Firing : ℕ → Effect → Type 0
  Firing place rule =
      (((value : ℕ) → rule.old ≡ Some value → value ≡ default_of p rule.var) × ((k : ℕ) → k < place → CanFire p (rule_at p k) → (rule_at p k).var ≡ rule.var → (rule_at p k).new ≡ rule.new)) × All (LooksDown p rule.var) rule.conditions

  firing_follows : (place : ℕ) (rule : Effect) → place ≤ length p.rules → Pass (firing_checks p place rule) ↔ Firing place rule
  firing_follows place rule within = search (rules, arith, option_map_or, by_test, old_is, agrees_with_earlier, and_then, conditions_follow)

  rule_follows : (place : ℕ) (rule : Effect) → place ≤ length p.rules → Pass (rule_layer_checks p place rule) ↔ (IsDerived p.variables rule.var × (CanFire p rule → Firing place rule))
  rule_follows place rule within = search (rules, arith, by_test, is_some, where_so, firing_follows, and_then)

  -- each rule, read as a task says it
  each_rule : (P : Effect → Type 0) → ((place : ℕ) → place < length p.rules → P (rule_at p place)) → All P p.rules
  each_rule P each place d below = subst P (get_or_default p.rules place _ d below) (each place below)

  abbrev Followed : Type 0
  Followed = (place : ℕ) → place < length p.rules → IsDerived p.variables (rule_at p place).var × (CanFire p (rule_at p place) → Firing place (rule_at p place))

  rules_follow : Pass (numbered_checks (rule_layer_checks p) p.rules) ↔ Followed
  rules_follow = (
    λ pass place below.
        (rule_follows place (rule_at p place) (omega arith)).0 ((numbered_pass (rule_layer_checks p) p.rules).0 pass place _ below),
    λ each. (numbered_pass (rule_layer_checks p) p.rules).1 (λ place d below.
        (rule_follows place (get_or p.rules place d) (omega arith)).1 (subst (λ (rule : Effect). IsDerived p.variables rule.var × (CanFire p rule → Firing place rule)) (get_or_default p.rules place _ d below) (each place below))),
  )

  -- two rules of a variable that can fire, of which one is before the other
  one_value : Followed → (place : ℕ) → place < length p.rules → CanFire p (rule_at p place) → (k : ℕ) → k < length p.rules → CanFire p (rule_at p k) → (rule_at p k).var ≡ (rule_at p place).var → (k < place) ⊎ ((place < k) ⊎ (k ≡ place)) → (rule_at p k).new ≡ (rule_at p place).new
  one_value each place below can k k_below k_can same h1 = grind (arith, rule_at)

  order : (a b : ℕ) → (a < b) ⊎ ((b < a) ⊎ (a ≡ b))
  order a b = elim (cases_lt a b) [ inl before ↦ inl before | inr here ↦ elim (cases_lt b a) [ inl behind ↦ inr (inl behind) | inr there ↦ inr (inr (omega (arith, here, there))) ] ]

  layered_rule : Followed → (place : ℕ) → place < length p.rules → CanFire p (rule_at p place) → IsLayeredRule p (rule_at p place)
  layered_rule each place below can =
      let firing = (each place below).1 can in
      record {
        old = firing.0.0;
        one_value = each_rule (λ (other : Effect). CanFire p other → other.var ≡ (rule_at p place).var → other.new ≡ (rule_at p place).new) (λ k k_below k_can same. one_value each place below can k k_below k_can same (order k place));
        order = firing.1;
      }

  sections : Pass (layer_checks p) ↔ IsLayered p
  sections =
      let operators = all_follow (operator_layer_checks p) (λ (o : Operator). All (λ (e : Effect). IsBasic p e.var) o.effects) p.operators (operator_follows p) in
      let both = and_then (numbered_checks (operator_layer_checks p) p.operators) (numbered_checks (rule_layer_checks p) p.rules) _ _ operators rules_follow in (
        λ pass.
            let q = both.0 pass in
            record {
              effects = q.0;
              derived = each_rule (λ (rule : Effect). IsDerived p.variables rule.var) (λ place below. (q.1 place below).0);
              rules = each_rule (λ (rule : Effect). CanFire p rule → IsLayeredRule p rule) (layered_rule q.1);
            },
        λ layered. both.1 (
          layered.effects,
          λ place below. (
            layered.derived place _ below,
            λ can.
                let its = layered.rules place _ below can in
                ((its.old, λ k before k_can same. its.one_value k _ (omega arith) k_can same), its.order),
          ),
        ),
      )

pub checks_are_rules : LayerChecksAreTheRules
checks_are_rules p = (λ none. (sections p).0 (record { none = none }), λ layered. ((sections p).1 layered).none)
