-- There is exactly one order of derived values.
use Rattle.std.proofs.lemmas.Grind.{common_steps}
use Rattle.sas_plan_reasons.proofs.Imports.{◌≡◌, ℕ, zero, suc, ◌+◌, ◌<◌, ◌≤◌, ◌⊎◌, ◌||◌, ◌==◌, Bool, false, if◌then◌else◌, List, [], ◌∷◌, ◌++◌, length, take, get_or, refl, sym, ◌∙◌, ap, subst, inl, inr, arith, cases_eq, cases_lt, cases_order, cases_Bool, false≢true, eqb_tells, take_all, take_more, take_at, get_or_at, list_any-append, take-append-le, get_or_append_left, length-append, Effect, Parts, rule_at, default_of, IsLowest, has_rule, CanBeAdded, IsOrder, open_with}
use Rattle.sas_plan_reasons.proofs.Lowest.{lowest_is_one, lowest_below}
use Rattle.sas_plan_reasons.proofs.OpenConditions.{met_when_none_open, none_open_when_met}

-- ---- one order

module _ (p : Parts) (s : List ℕ) where
  one_more : (n : ℕ) → suc n ≡ n + 1
  one_more n = omega arith

  same_front : (a b : List ℕ) → IsOrder p s a → IsOrder p s b → (k : ℕ) → k ≤ length a → k ≤ length b → take k a ≡ take k b
  same_front a b x y zero le le' = refl
  same_front a b x y (suc k) le le' =
      let same = same_front a b x y k (omega arith) (omega arith) in
      let next : get_or a k 0 ≡ get_or b k 0 = lowest_is_one (CanBeAdded p s (take k b)) (get_or a k 0) (get_or b k 0)
      (subst (λ rules. IsLowest (CanBeAdded p s rules) (get_or a k 0)) same (x.each k (omega arith))) (y.each k (omega arith)) in
      ap (λ n. take n a) (one_more k) ∙ (take_more a k 0 (omega arith)
      ∙ (ap (λ rules. rules ++ get_or a k 0 ∷ []) same ∙ (ap (λ rule. take k b ++ rule ∷ []) next
      ∙ (sym (take_more b k 0 (omega arith)) ∙ ap (λ n. take n b) (sym (one_more k))))))

  no_longer : (a b : List ℕ) → IsOrder p s a → IsOrder p s b → length a < length b → ⊥
  no_longer a b x y less = x.whole (get_or b (length a) 0) (subst (λ rules. CanBeAdded p s rules (get_or b (length a) 0))
      (sym (same_front a b x y (length a) (omega arith) (omega arith)) ∙ take_all (length a) a (omega arith)) (y.each (length a) less).has)

  pub one_order : (a b : List ℕ) → IsOrder p s a → IsOrder p s b → a ≡ b
  one_order a b x y = elim (cases_order (length a) (length b)) [
    | inl e ↦ sym (take_all (length a) a (omega arith)) ∙ (same_front a b x y (length a) (omega arith) (omega arith) ∙ take_all (length a) b (omega arith))
    | inr w ↦ absurd (elim w [ inl less ↦ no_longer a b x y less | inr more ↦ no_longer b a y x more ])
  ]

  -- ---- some order

  pub can_be_or_not : (rules : List ℕ) (rule : ℕ) → CanBeAdded p s rules rule ⊎ (CanBeAdded p s rules rule → ⊥)
  can_be_or_not rules rule = elim (cases_lt rule (length p.rules)) [
    | inr past ↦ inr (λ can. let lt = can.exists in omega arith)
    | inl lt ↦ elim (cases_eq (rule_at p rule).new (default_of p (rule_at p rule).var)) [
      | inl e ↦ inr (λ can. can.can e)
      | inr fires ↦ elim (cases_Bool (has_rule p rules (rule_at p rule).var)) [
        | inl y ↦ inr (λ can. false≢true (sym can.new ∙ y))
        | inr new ↦ elim (cases_eq (open_with p s rules (rule_at p rule).conditions) 0) [
          | inl none ↦ (let met = met_when_none_open p s rules (rule_at p rule).conditions none in
              inl (record { exists = lt; can = fires; hold = met.hold; new = new; rests = met.rests }))
          | inr some ↦ inr (λ can. some (none_open_when_met p s rules (rule_at p rule).conditions (record { hold = can.hold; rests = can.rests })))
        ]
      ]
    ]
  ]

-- a rule is added to others
pub AreAdded : Parts → List ℕ → List ℕ → Type 0
AreAdded p s order = (k : ℕ) → k < length order → IsLowest (CanBeAdded p s (take k order)) (get_or order k 0)

pub added_one : (p : Parts) (s rules : List ℕ) (rule : ℕ) → ((k : ℕ) → k < length rules → IsLowest (CanBeAdded p s (take k rules)) (get_or rules k 0))
    → IsLowest (CanBeAdded p s rules) rule
    → (k : ℕ) → k < length (rules ++ rule ∷ []) → IsLowest (CanBeAdded p s (take k (rules ++ rule ∷ []))) (get_or (rules ++ rule ∷ []) k 0)
added_one p s rules rule each next k lt = elim (cases_eq k (length rules)) [
  | inl e ↦ rw (take_at rules (rule ∷ []) k (sym e), get_or_at rules rule [] 0 k (sym e)) next
  | inr ne ↦ (let within : k < length rules = let l = length-append rules (rule ∷ []) in omega arith in
      rw (take-append-le k rules (rule ∷ []) (omega arith), get_or_append_left rules (rule ∷ []) 0 k within) (each k within))
]

pub has_more : (p : Parts) (rules : List ℕ) (rule var : ℕ) → has_rule p (rules ++ rule ∷ []) var ≡ (has_rule p rules var || ((rule_at p rule).var == var))
has_more p rules rule var = list_any-append (λ r. (rule_at p r).var == var) rules (rule ∷ []) ∙ either ((rule_at p rule).var == var)
  where
    either : (b : Bool) → (has_rule p rules var || (b || false)) ≡ (has_rule p rules var || b)
    either b = grind (arith, common_steps, cases_Bool)

module _ (p : Parts) (s : List ℕ) where
  -- how many of these rules are of variables that have no rule yet
  lacking : List ℕ → List Effect → ℕ
  lacking rules [] = 0
  lacking rules (r ∷ rs) = (if has_rule p rules r.var then 0 else 1) + lacking rules rs

  module _ (rules : List ℕ) (rule : ℕ) where
    no_more : (rs : List Effect) → lacking (rules ++ rule ∷ []) rs ≤ lacking rules rs
    unfolding lacking
    no_more [] = omega arith
    no_more (r ∷ rs) = grind (arith, no_more rs, has_more p rules rule r.var, cases_Bool (has_rule p rules r.var), cases_Bool ((rule_at p rule).var == r.var))

    fewer : (rs : List Effect) (k : ℕ) (d : Effect) → k < length rs → get_or rs k d ≡ rule_at p rule → has_rule p rules (rule_at p rule).var ≡ false
        → lacking (rules ++ rule ∷ []) rs < lacking rules rs
    unfolding lacking
    fewer [] k d lt is new = absurd (omega arith)
    fewer (r ∷ rs) zero d lt is new = grind (arith, no_more rs, has_more p rules rule r.var, eqb_tells)
    fewer (r ∷ rs) (suc k) d lt is new = grind (arith, fewer rs k d, has_more p rules rule r.var, cases_Bool (has_rule p rules r.var), cases_Bool ((rule_at p rule).var == r.var))

  grown : (n : ℕ) (rules : List ℕ) → ((k : ℕ) → k < length rules → IsLowest (CanBeAdded p s (take k rules)) (get_or rules k 0)) → lacking rules p.rules < n
      → (order : List ℕ) × IsOrder p s order
  grown zero rules each few = absurd (omega arith)
  grown (suc n) rules each few = elim (lowest_below (CanBeAdded p s rules) (can_be_or_not p s rules) (length p.rules)) [
    | inl w ↦ (let less = fewer rules w.0 p.rules w.0 _ w.1 refl w.2.has.new in
        grown n (rules ++ w.0 ∷ []) (added_one p s rules w.0 each w.2) (omega arith))
    | inr none ↦ (rules, record { each = each; whole = λ rule can. none rule can.exists can })
  ]

  pub some_order : (order : List ℕ) × IsOrder p s order
  some_order = grown (suc (lacking [] p.rules)) [] (λ k lt. absurd (omega arith)) (omega arith)
