-- The rules of each variable that can fire, one rule more.
use Rattle.sas_axioms.proofs.Imports.{◌≡◌, ◌≢◌, ℕ, ◌+◌, ◌<◌, ◌≤◌, Bool, true, false, List, [], ◌∷◌, ◌++◌, length, get_or, refl, sym, ◌∙◌, ap, subst, inl, inr, arith, ◌==◌, ◌&&◌, not, if◌then◌else◌, All, Contains, eqb-true, eq-eqb, ne_eqb, and_parts, and_from, eqb_tells, append-nil, All-nil, All-push, Contains-get_or, Effect, Parts, rule_at, Entry, items_of, by_key, IsRuleOn, AreRulesOf, length-table, item_if, items_none, items_append, items_cons, under_key, IsOnLayer, default_of, CanFire, can_fire, places, can_give, on_layer_within, places_to, places_one_more, places_all, place_is, is_place}

module _ (p : Parts) where
  abbrev pub entry_of : ℕ → Entry ℕ
  entry_of rule = record { key = (rule_at p rule).var; item = rule }

  -- under each variable there are its rules that can fire among the first k
  pub record RulesTo (k : ℕ) (entries : List (Entry ℕ)) : Type 0 where
    pub exist : All (λ (e : Entry ℕ). e.key < length p.variables) entries
    pub each : (var : ℕ) → items_of var entries ≡ places_to (can_give p var) k p.rules

  pub rules_none : RulesTo 0 []
  rules_none = record { exist = All-nil (λ (e : Entry ℕ). e.key < length p.variables); each = λ var. items_none var }

  pub rules_skip : (k : ℕ) (entries : List (Entry ℕ)) → k < length p.rules → (rule_at p k).new ≡ default_of p (rule_at p k).var → RulesTo k entries → RulesTo (k + 1) entries
  rules_skip k entries lt same to = record {
    exist = to.exist;
    each = λ var. to.each var ∙ sym (places_one_more (can_give p var) k p.rules _ lt
        ∙ (ap (λ b. places_to (can_give p var) k p.rules ++ (if b then k ∷ [] else [])) (never var) ∙ append-nil (places_to (can_give p var) k p.rules)));
  }
    where
      never : (var : ℕ) → can_give p var (rule_at p k) ≡ false
      never var = ap (λ b. ((rule_at p k).var == var) && not b) (eq-eqb (rule_at p k).new (default_of p (rule_at p k).var) same)
          ∙ and_false ((rule_at p k).var == var)
        where
          and_false : (x : Bool) → (x && false) ≡ false
          and_false true = refl
          and_false false = refl

  pub rules_more : (k : ℕ) (entries : List (Entry ℕ)) → k < length p.rules → (rule_at p k).var < length p.variables → (rule_at p k).new ≢ default_of p (rule_at p k).var
      → RulesTo k entries → RulesTo (k + 1) (entries ++ entry_of k ∷ [])
  rules_more k entries lt within other to = record {
    exist = All-push (λ (e : Entry ℕ). e.key < length p.variables) entries (entry_of k) to.exist within;
    each = λ var. items_append var entries (entry_of k ∷ [])
        ∙ (ap (λ (l : List ℕ). l ++ items_of var (entry_of k ∷ [])) (to.each var)
        ∙ (ap (λ (l : List ℕ). places_to (can_give p var) k p.rules ++ l) (one var)
        ∙ sym (places_one_more (can_give p var) k p.rules _ lt)));
  }
    where
      can : can_fire p (rule_at p k) ≡ true
      can = ap not (ne_eqb (rule_at p k).new (default_of p (rule_at p k).var) other)

      one : (var : ℕ) → items_of var (entry_of k ∷ []) ≡ (if can_give p var (rule_at p k) then k ∷ [] else [])
      one var = items_cons var (entry_of k) [] ∙ (ap (λ (l : List ℕ). item_if var (entry_of k) ++ l) (items_none var)
          ∙ (append-nil (item_if var (entry_of k)) ∙ elim (eqb_tells (rule_at p k).var var) [
            | inl e ↦ rw (e.0, can) refl
            | inr e ↦ rw e.0 refl
          ]))

  pub rules_index : (k : ℕ) (entries : List (Entry ℕ)) → length p.rules ≤ k → RulesTo k entries → AreRulesOf p (by_key entries (length p.variables))
  rules_index k entries all to = grind (arith, length-table, length, items_of, under_key, places_all, can_give)

-- ---- what the lists have

module _ (p : Parts) where
  -- a rule of the variable exists
  pub of_variable : (var rule : ℕ) → Contains (places (can_give p var) p.rules) rule → (rule < length p.rules) × ((rule_at p rule).var ≡ var) × (can_give p var (rule_at p rule) ≡ true)
  of_variable var rule h =
      let w = place_is (can_give p var) 0 p.rules rule h in
      let same : w.index ≡ rule = omega (arith, w.is) in
      let passes : can_give p var (rule_at p rule) ≡ true = subst (λ k. can_give p var (rule_at p k) ≡ true) same (w.passes _) in (
        omega (arith, w.within),
        eqb-true (rule_at p rule).var var (and_parts ((rule_at p rule).var == var) (can_fire p (rule_at p rule)) passes).0,
        passes,
      )

  pub can_of : (var : ℕ) (rule : Effect) → can_give p var rule ≡ true → CanFire p rule × (rule.var ≡ var)
  can_of var rule is = grind (arith, and_parts, can_fire, default_of, eqb-true)

  module _ (lists : List (List ℕ)) (are : AreRulesOf p lists) where
    -- under a variable of a layer all rules are on the layer
    pub rules_on : (layer var : ℕ) → IsOnLayer p layer var → All (λ rule. IsRuleOn p layer rule) (get_or lists var [])
    rules_on layer var on = subst (All (λ (rule : ℕ). IsRuleOn p layer rule)) (sym (are.each var (on_layer_within p layer var on))) (λ k d lt.
        let rule = get_or (places (can_give p var) p.rules) k d in
        let its = of_variable var rule (Contains-get_or (places (can_give p var) p.rules) k d lt) in
        record { exists = its.0; on = subst (λ v. IsOnLayer p layer v) (sym its.1) on; can = (can_of var (rule_at p rule) its.2).0 })

    -- and each rule of the layer is under its variable
    pub rule_under : (layer rule : ℕ) → IsRuleOn p layer rule → Contains (get_or lists (rule_at p rule).var []) rule
    rule_under layer rule is =
        let var = (rule_at p rule).var in
        subst (λ (l : List ℕ). Contains l rule) (sym (are.each var (on_layer_within p layer var is.on)))
        (subst (Contains (places (can_give p var) p.rules)) (let e : 0 + rule ≡ rule = omega arith in e)
        (is_place (can_give p var) 0 p.rules rule _ is.exists
        (and_from (var == var) (can_fire p (rule_at p rule)) (eq-eqb var var refl) (ap not (ne_eqb (rule_at p rule).new (default_of p var) is.can)))))
