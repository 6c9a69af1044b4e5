-- Each variable has exactly one derivation.
use Rattle.std.proofs.lemmas.Grind.{common_steps}
use Rattle.sas_plan_reasons.proofs.Imports.{IsFalse, ◌≡◌, ℕ, ◌<◌, ◌⊎◌, ◌==◌, ◌&&◌, ◌||◌, Bool, true, false, if◌then◌else◌, List, [], ◌∷◌, ◌++◌, length, get_or, refl, sym, ◌∙◌, ap, subst, inl, inr, arith, All, AllPairs, Contains, cases_Bool, false≢true, eqb_tells, eqb-true, eq-eqb, and_parts, and_from, list_any, list_any_at, Any-from_list_any, All-contains, AllPairs-cons, Contains-get_or, get_or_default, contains_head, contains_tail, contains_cases, contains_none, Fact, Parts, rule_at, needs_rules, has_rule, IsOrder, IsRuleOf, DependsOn, Own, Below, InDerivation, StandsBefore, IsDerivation}
use Rattle.sas_plan_reasons.proofs.Derivation.{had_rule, one_rule, one_place, no_circle, rests_on_earlier, earlier, placed}
use Rattle.sas_plan_reasons.proofs.Orders.{one_order, some_order}
use Rattle.sas_plan_reasons.proofs.Sorting.{pairs_head, pairs_tail, same_ordered, last_of}

-- ---- the rules of a derivation

-- these are the rules of the variable's derivation in this order
pub record DerivationIn (p : Parts) (order : List ℕ) (var : ℕ) (rules : List ℕ) : Type 0 where
  pub each : All (InDerivation p order var) rules
  pub whole : (rule : ℕ) → InDerivation p order var rule → Contains rules rule
  pub ordered : AllPairs (StandsBefore order) rules

pub is_derivation : (p : Parts) (s order : List ℕ) → IsOrder p s order → (var : ℕ) (rules : List ℕ) → DerivationIn p order var rules → IsDerivation p s var rules
is_derivation p s order is var rules its = record { order = order; is = is; each = its.each; whole = its.whole; ordered = its.ordered }

module _ (p : Parts) (var : ℕ) where
  -- whether a condition of the rule needs a rule of the variable
  depends : ℕ → ℕ → Bool
  depends rule on = list_any (λ (c : Fact). needs_rules p c && (c.var == on)) (rule_at p rule).conditions

  depends_on : (rule on : ℕ) → depends rule on ≡ true → DependsOn p rule on
  unfolding depends
  depends_on rule on d =
      let w = Any-from_list_any (λ (c : Fact). needs_rules p c && (c.var == on)) (rule_at p rule).conditions d in
      let both = and_parts (needs_rules p w.1) (w.1.var == on) w.4 in
      record { condition = w.1; among = (w.0, w.2, w.3); on = eqb-true w.1.var on both.1; needs = both.0 }

  depends_when : (rule on : ℕ) → DependsOn p rule on → depends rule on ≡ true
  unfolding depends
  depends_when rule on d =
      let (k, lt, is) = d.among in
      list_any_at (λ (c : Fact). needs_rules p c && (c.var == on)) (rule_at p rule).conditions k d.condition lt
      (subst (λ (c : Fact). (needs_rules p c && (c.var == on)) ≡ true) (sym is) (and_from (needs_rules p d.condition) (d.condition.var == on) d.needs (eq-eqb d.condition.var on d.on)))

  -- the derivation in a list of rules: a rule belongs to it if it is one of the variable, or a later one of the derivation depends on its variable
  wanted : List ℕ → ℕ → Bool
  wanted later rule = ((rule_at p rule).var == var) || list_any (λ above. depends above (rule_at p rule).var) later

  pub derived : List ℕ → List ℕ
  derived [] = []
  derived (rule ∷ rules) = if wanted (derived rules) rule then rule ∷ derived rules else derived rules

  derived_cases : (rule : ℕ) (rules : List ℕ) → ((wanted (derived rules) rule ≡ true) × (derived (rule ∷ rules) ≡ rule ∷ derived rules))
      ⊎ ((wanted (derived rules) rule ≡ false) × (derived (rule ∷ rules) ≡ derived rules))
  unfolding derived
  derived_cases rule rules = grind (arith, common_steps, cases_Bool)

  -- they are some of the rules, in their order
  some_of : (rules : List ℕ) (rule : ℕ) → Contains (derived rules) rule → Contains rules rule
  unfolding derived
  some_of [] rule h = h
  some_of (r ∷ rules) rule h = elim (derived_cases r rules) [
    | inr w ↦ contains_tail r rules rule (some_of rules rule (subst (λ l. Contains l rule) w.1 h))
    | inl w ↦ elim (contains_cases r (derived rules) rule (subst (λ l. Contains l rule) w.1 h)) [
      | inl e ↦ subst (Contains (r ∷ rules)) e (contains_head r rules)
      | inr there ↦ contains_tail r rules rule (some_of rules rule there)
    ]
  ]

  in_order : (Less : ℕ → ℕ → Type 0) (rules : List ℕ) → AllPairs Less rules → AllPairs Less (derived rules)
  unfolding derived
  in_order Less [] pairs = pairs
  in_order Less (r ∷ rules) pairs =
      let more = in_order Less rules (pairs_tail Less r rules pairs) in
      elim (derived_cases r rules) [
        | inr w ↦ subst (AllPairs Less) (sym w.1) more
        | inl w ↦ subst (AllPairs Less) (sym w.1) (AllPairs-cons Less r (derived rules)
            (λ k d lt. pairs_head Less r rules pairs (get_or (derived rules) k d) (some_of rules (get_or (derived rules) k d) (Contains-get_or (derived rules) k d lt))) more)
      ]

  is_wanted : (later : List ℕ) (rule : ℕ) → wanted later rule ≡ true → ((rule_at p rule).var ≡ var) ⊎ ((above : ℕ) × Contains later above × DependsOn p above (rule_at p rule).var)
  unfolding wanted
  is_wanted later rule w = elim (eqb_tells (rule_at p rule).var var) [
    | inl e ↦ inl e.1
    | inr ne ↦ (let a = Any-from_list_any (λ above. depends above (rule_at p rule).var) later (sym (ap (λ b. b || list_any (λ above. depends above (rule_at p rule).var) later) ne.0) ∙ w) in
        inr (a.1, (a.0, a.2, a.3), depends_on a.1 (rule_at p rule).var a.4))
  ]

  wanted_own : (later : List ℕ) (rule : ℕ) → (rule_at p rule).var ≡ var → wanted later rule ≡ true
  unfolding wanted
  wanted_own later rule e = ap (λ b. b || list_any (λ above. depends above (rule_at p rule).var) later) (eq-eqb (rule_at p rule).var var e)

  wanted_below : (later : List ℕ) (rule above : ℕ) → Contains later above → DependsOn p above (rule_at p rule).var → wanted later rule ≡ true
  unfolding wanted
  wanted_below later rule above (k, lt, is) rests = ap (λ b. ((rule_at p rule).var == var) || b)
      (list_any_at (λ a. depends a (rule_at p rule).var) later k above lt (depends_when (get_or later k above) (rule_at p rule).var (subst (λ a. DependsOn p a (rule_at p rule).var) (sym is) rests)))
      ∙ either ((rule_at p rule).var == var)
    where
      either : (b : Bool) → (b || true) ≡ true
      either true = refl
      either false = refl

  still : (r : ℕ) (rules : List ℕ) (rule : ℕ) → Contains (derived rules) rule → Contains (derived (r ∷ rules)) rule
  still r rules rule h = elim (derived_cases r rules) [
    | inl w ↦ subst (λ l. Contains l rule) (sym w.1) (contains_tail r (derived rules) rule h)
    | inr w ↦ subst (λ l. Contains l rule) (sym w.1) h
  ]

  -- the variable's own rule is among them
  own_there : (rules : List ℕ) (rule : ℕ) → Contains rules rule → (rule_at p rule).var ≡ var → Contains (derived rules) rule
  unfolding derived
  own_there [] rule h on = h
  own_there (r ∷ rules) rule h on = elim (contains_cases r rules rule h) [
    | inr there ↦ still r rules rule (own_there rules rule there on)
    | inl e ↦ elim (derived_cases r rules) [
      | inl w ↦ subst (λ l. Contains l rule) (sym w.1) (subst (Contains (r ∷ derived rules)) e (contains_head r (derived rules)))
      | inr w ↦ absurd (false≢true (sym w.0 ∙ wanted_own (derived rules) r (ap (λ x. (rule_at p x).var) e ∙ on)))
    ]
  ]

  -- if no rule depends on the variable of a later one, each rule on whose variable one of them depends is among them
  below_there : (rules : List ℕ) → AllPairs (λ a b. DependsOn p a (rule_at p b).var → ⊥) rules → (above rule : ℕ) → Contains (derived rules) above → Contains rules rule
      → DependsOn p above (rule_at p rule).var → Contains (derived rules) rule
  unfolding derived
  below_there [] pairs above rule h among rests = among
  below_there (r ∷ rules) pairs above rule h among rests = elim (derived_cases r rules) [
    | inl w ↦ subst (λ l. Contains l rule) (sym w.1) (elim (contains_cases r rules rule among) [
      | inl e ↦ subst (Contains (r ∷ derived rules)) e (contains_head r (derived rules))
      | inr there ↦ contains_tail r (derived rules) rule (elim (contains_cases r (derived rules) above (subst (λ l. Contains l above) w.1 h)) [
        | inl e ↦ absurd (pairs_head (λ a b. DependsOn p a (rule_at p b).var → ⊥) r rules pairs rule there (subst (λ a. DependsOn p a (rule_at p rule).var) (sym e) rests))
        | inr above_there ↦ below_there rules (pairs_tail (λ a b. DependsOn p a (rule_at p b).var → ⊥) r rules pairs) above rule above_there there rests
      ])
    ])
    | inr w ↦ subst (λ l. Contains l rule) (sym w.1) (let above_there = subst (λ l. Contains l above) w.1 h in elim (contains_cases r rules rule among) [
      | inl e ↦ absurd (false≢true (sym w.0 ∙ wanted_below (derived rules) r above above_there (subst (λ x. DependsOn p above (rule_at p x).var) (sym e) rests)))
      | inr there ↦ below_there rules (pairs_tail (λ a b. DependsOn p a (rule_at p b).var → ⊥) r rules pairs) above rule above_there there rests
    ])
  ]

  module _ (order : List ℕ) where
    -- its rules are in the derivation
    sound : (rules : List ℕ) → ((rule : ℕ) → Contains rules rule → Contains order rule) → (rule : ℕ) → Contains (derived rules) rule → InDerivation p order var rule
    unfolding derived
    sound [] among rule h = absurd (contains_none rule h)
    sound (r ∷ rules) among rule h =
        let behind : (x : ℕ) → Contains (derived rules) x → InDerivation p order var x = sound rules (λ x has. among x (contains_tail r rules x has)) in
        elim (derived_cases r rules) [
          | inr w ↦ behind rule (subst (λ l. Contains l rule) w.1 h)
          | inl w ↦ elim (contains_cases r (derived rules) rule (subst (λ l. Contains l rule) w.1 h)) [
            | inr there ↦ behind rule there
            | inl e ↦ subst (InDerivation p order var) e (elim (is_wanted (derived rules) r w.0) [
              | inl on ↦ Own (record { among = among r (contains_head r rules); on = on })
              | inr above ↦ Below (behind above.0 above.1) above.2 (record { among = among r (contains_head r rules); on = refl })
            ])
          ]
        ]

    module _ (s : List ℕ) (is : IsOrder p s order) where
      never_later : AllPairs (λ a b. DependsOn p a (rule_at p b).var → ⊥) order
      never_later i j d lt within rests =
          let at = get_or_default order i d 0 (omega arith) in
          let w = earlier p s order is i (rule_at p (get_or order j d)).var (omega arith)
          (rests_on_earlier p s order is i (rule_at p (get_or order j d)).var (omega arith) (subst (λ a. DependsOn p a (rule_at p (get_or order j d)).var) at rests)) in
          let same = one_place p s order is w.2.place j (let l = w.2.less in let m = w.2.within in omega arith) within
          (ap (λ r. (rule_at p r).var) w.2.at ∙ (w.1.on ∙ ap (λ r. (rule_at p r).var) (get_or_default order j d 0 within))) in
          let there = one_place p s order is w.2.place' i w.2.within (omega arith) (ap (λ r. (rule_at p r).var) w.2.at') in
          let less = w.2.less in
          omega arith

      complete : (rule : ℕ) → InDerivation p order var rule → Contains (derived order) rule
      complete rule (Own its) = own_there order rule its.among its.on
      complete rule (Below {above} inside rests its) =
          below_there order never_later above rule (complete above inside) its.among (subst (DependsOn p above) (sym its.on) rests)

      stand : AllPairs (StandsBefore order) order
      stand i j d lt within =
          record { place = i; place' = j; less = lt; within = within; at = get_or_default order i 0 d (omega arith); at' = get_or_default order j 0 d within }

      pub derivation_in : DerivationIn p order var (derived order)
      derivation_in = record {
        each = λ k d lt. sound order (λ r h. h) (get_or (derived order) k d) (Contains-get_or (derived order) k d lt);
        whole = complete;
        ordered = in_order (StandsBefore order) order stand;
      }

pub some_derivation : (p : Parts) (s : List ℕ) (var : ℕ) → (rules : List ℕ) × IsDerivation p s var rules
some_derivation p s var = let w = some_order p s in (derived p var w.0, is_derivation p s w.0 w.1 var (derived p var w.0) (derivation_in p var w.0 s w.1))

-- ---- one derivation

pub one_derivation : (p : Parts) (s : List ℕ) (var : ℕ) (a b : List ℕ) → IsDerivation p s var a → IsDerivation p s var b → a ≡ b
one_derivation p s var a b x y = same_ordered (StandsBefore y.order) (no_circle p s y.order y.is) a b
    (subst (λ order. AllPairs (StandsBefore order) a) same x.ordered) y.ordered
    (λ z h. y.whole z (subst (λ order. InDerivation p order var z) same (All-contains (InDerivation p x.order var) a z x.each h)))
    (λ z h. x.whole z (subst (λ order. InDerivation p order var z) (sym same) (All-contains (InDerivation p y.order var) b z y.each h)))
  where
    same : x.order ≡ y.order
    same = one_order p s x.order y.order x.is y.is

-- all rules of a derivation are of the order
pub of_order : (p : Parts) (order : List ℕ) (var rule : ℕ) → InDerivation p order var rule → Contains order rule
of_order p order var rule (Own its) = its.among
of_order p order var rule (Below inside rests its) = its.among

pub no_derivation : (p : Parts) (s : List ℕ) (var : ℕ) (rules : List ℕ) (d : IsDerivation p s var rules) → IsFalse (has_rule p d.order var) → rules ≡ []
no_derivation p s var [] d none = refl
no_derivation p s var (rule ∷ rules) d none = absurd (inside rule (d.each 0 rule (omega arith)))
  where
    inside : (r : ℕ) → InDerivation p d.order var r → ⊥
    inside r (Own its) = false≢true (sym none ∙ had_rule p d.order var r its)
    inside r (Below {above} deeper rests its) = inside above deeper

-- the variable's own rule is the last one
module _ (p : Parts) (s order : List ℕ) (is : IsOrder p s order) where
  -- a rule depends only on variables whose rules stand before it
  pub stands_before : (rule var below : ℕ) → Contains order rule → DependsOn p rule var → IsRuleOf p order var below → StandsBefore order below rule
  stands_before rule var below among rests its =
      let k = placed p s order is rule among in
      let w = earlier p s order is k.0 var k.1 (rests_on_earlier p s order is k.0 var k.1 (subst (λ r. DependsOn p r var) (sym k.2) rests)) in
      subst (λ r. StandsBefore order r rule) (one_rule p s order is var w.0 below w.1 its) (subst (StandsBefore order w.0) k.2 w.2)

  pub before_that : (a b c : ℕ) → StandsBefore order a b → StandsBefore order b c → StandsBefore order a c
  before_that a b c x y =
      let same = one_place p s order is x.place' y.place x.within (let l = y.less in let w = y.within in omega arith) (ap (λ r. (rule_at p r).var) (x.at' ∙ sym y.at)) in
      record { place = x.place; place' = y.place'; less = (let l = x.less in let m = y.less in omega arith); within = y.within; at = x.at; at' = y.at' }

  pub own_after : (var own rule : ℕ) → IsRuleOf p order var own → InDerivation p order var rule → (rule ≡ own) ⊎ StandsBefore order rule own
  own_after var own rule its (Own its') = inl (one_rule p s order is var rule own its' its)
  own_after var own rule its (Below {above} {on} inside rests its') =
      let less = stands_before above on rule (of_order p order var above inside) rests its' in
      elim (own_after var own above its inside) [
        | inl e ↦ inr (subst (StandsBefore order rule) e less)
        | inr before ↦ inr (before_that rule above own less before)
      ]

pub own_is_last : (p : Parts) (s : List ℕ) (var rule : ℕ) (rules : List ℕ) (d : IsDerivation p s var rules) → IsRuleOf p d.order var rule
    → (front : List ℕ) × (rules ≡ front ++ rule ∷ [])
own_is_last p s var rule rules d its = last_of (StandsBefore d.order) rule rules d.ordered (d.whole rule (Own its)) (λ z has less.
    elim (own_after p s d.order d.is var rule z its (All-contains (InDerivation p d.order var) rules z d.each has)) [
      | inl e ↦ (let itself = subst (StandsBefore d.order rule) e less in no_circle p s d.order d.is rule rule itself itself)
      | inr before ↦ no_circle p s d.order d.is rule z less before
    ])

-- the rules of the order exist
pub rule_exists : (p : Parts) (s order : List ℕ) → IsOrder p s order → (rule : ℕ) → Contains order rule → rule < length p.rules
rule_exists p s order is rule among = let k = placed p s order is rule among in subst (λ r. r < length p.rules) k.2 (is.each k.0 k.1).has.exists
