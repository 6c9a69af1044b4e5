-- The order of derived values: what each of its rules rests on, and that it has a rule of each variable that differs from its default.
use Rattle.std.proofs.Common.{rules}
use Rattle.std.proofs.lemmas.Grind.{common_steps}
use Rattle.sas_plan_reasons.proofs.Imports.{IsTrue, None, Some, ◌&&◌, not, slice_index, ◌↔◌, ◌≡◌, ◌≢◌, ℕ, zero, suc, ◌<◌, ◌≤◌, ◌⊎◌, ◌==◌, true, false, cond, is_some, List, length, take, get_or, refl, sym, ◌∙◌, ap, subst, inl, inr, arith, All, Contains, cases_eq, cases_order, cases_Bool, false≢true, All-contains, list_any_at, Any-from_list_any, Contains-get_or, get_or-take, get_or_default, length-take-le, eq-eqb, eqb-true, eqb_tells, Fact, Effect, Parts, rule_at, AllHold, IsBasic, IsOnLayer, default_of, CanFire, LooksDown, IsLayered, IsClosed, new_value_of, value_with, differs, IsSettled, layer_decides, layer_of, layer_cases, given_on, given_off, new_value_is, differs_decides, differs_true, needs_rules, has_rule, CanBeAdded, IsOrder, IsRuleOf, DependsOn, StandsBefore, RequiresLower, RestsOnEarlier}

-- ---- rules of variables

-- a derived variable is on a layer
pub on_some_layer : (p : Parts) (var : ℕ) → is_some (layer_of p.variables var) ≡ true → (layer : ℕ) × IsOnLayer p layer var
on_some_layer p var derived = grind (arith, common_steps, layer_cases, false≢true)

pub rule_there : (p : Parts) (rules : List ℕ) (rule : ℕ) → Contains rules rule → has_rule p rules (rule_at p rule).var ≡ true
rule_there p rules rule (k, lt, is) =
    list_any_at (λ r. (rule_at p r).var == (rule_at p rule).var) rules k rule lt (eq-eqb (rule_at p (get_or rules k rule)).var (rule_at p rule).var (ap (λ r. (rule_at p r).var) is))

pub rule_of : (p : Parts) (rules : List ℕ) (var : ℕ) → has_rule p rules var ≡ true → (rule : ℕ) × IsRuleOf p rules var rule
rule_of p rules var has =
    let w = Any-from_list_any (λ r. (rule_at p r).var == var) rules has in
    (w.1, record { among = (w.0, w.2, w.3); on = eqb-true (rule_at p w.1).var var w.4 })

pub had_rule : (p : Parts) (rules : List ℕ) (var rule : ℕ) → IsRuleOf p rules var rule → has_rule p rules var ≡ true
had_rule p rules var rule is = subst (λ v. has_rule p rules v ≡ true) is.on (rule_there p rules rule is.among)

-- a condition needs a rule, or it is on a basic variable or requires a default
pub needs_cases : (p : Parts) (c : Fact) → ((layer : ℕ) × IsOnLayer p layer c.var × (c.value ≢ default_of p c.var) × (needs_rules p c ≡ true))
    ⊎ ((needs_rules p c ≡ false) × ((layer : ℕ) → IsOnLayer p layer c.var → c.value ≡ default_of p c.var))
needs_cases p c = elim (layer_cases p c.var) [
  | inl basic ↦ inr (ap (λ o. is_some o && not (c.value == default_of p c.var)) basic, λ layer on. absurd (let e : None ≡ Some layer = sym basic ∙ on in cc))
  | inr on ↦ elim (eqb_tells c.value (default_of p c.var)) [
    | inl e ↦ inr (ap (λ o. is_some o && not (c.value == default_of p c.var)) on.1 ∙ ap not e.0, λ layer _. e.1)
    | inr ne ↦ inl (on.0, on.1, ne.1, ap (λ o. is_some o && not (c.value == default_of p c.var)) on.1 ∙ ap not ne.0)
  ]
]

-- ---- the rules of the order

module _ (p : Parts) (s order : List ℕ) (is : IsOrder p s order) where
  -- a rule of the order could be added to those before it
  pub added : (k : ℕ) → k < length order → CanBeAdded p s (take k order) (get_or order k 0)
  added k lt = (is.each k lt).has

  before : (i j : ℕ) → i < j → j < length order → Contains (take j order) (get_or order i 0)
  before i j lt within = subst (Contains (take j order)) (get_or-take j order i 0 lt)
      (Contains-get_or (take j order) i 0 (let e = length-take-le j order (let w = within in omega arith) in omega arith))

  -- rules of the order have different variables
  pub differ : (i j : ℕ) → i < j → j < length order → (rule_at p (get_or order i 0)).var ≢ (rule_at p (get_or order j 0)).var
  differ i j lt within same = false≢true (sym (added j within).new
      ∙ subst (λ v. has_rule p (take j order) v ≡ true) same (rule_there p (take j order) (get_or order i 0) (before i j lt within)))

  -- the place of a rule
  pub placed : (rule : ℕ) → Contains order rule → (k : ℕ) × (k < length order) × (get_or order k 0 ≡ rule)
  placed rule (k, lt, e) = (k, lt, get_or_default order k 0 rule lt ∙ e)

  pub one_place : (i j : ℕ) → i < length order → j < length order → (rule_at p (get_or order i 0)).var ≡ (rule_at p (get_or order j 0)).var → i ≡ j
  one_place i j lt lt' same = elim (cases_order i j) [
    | inl e ↦ e
    | inr w ↦ elim w [ inl less ↦ absurd (differ i j less lt' same) | inr more ↦ absurd (differ j i more lt (sym same)) ]
  ]

  pub one_rule : (var a b : ℕ) → IsRuleOf p order var a → IsRuleOf p order var b → a ≡ b
  one_rule var a b x y =
      let i = placed a x.among in
      let j = placed b y.among in
      let same = one_place i.0 j.0 i.1 j.1 (ap (λ r. (rule_at p r).var) i.2 ∙ (x.on ∙ (sym y.on ∙ ap (λ r. (rule_at p r).var) (sym j.2)))) in
      sym i.2 ∙ (ap (λ k. get_or order k 0) same ∙ j.2)

  -- a variable that has a rule among the first ones has one that stands before
  pub earlier : (k var : ℕ) → k < length order → has_rule p (take k order) var ≡ true → (rule : ℕ) × IsRuleOf p order var rule × StandsBefore order rule (get_or order k 0)
  earlier k var lt has =
      let w = rule_of p (take k order) var has in
      let len = length-take-le k order (omega arith) in
      let i = w.1.among.0 in
      let below : i < k = let l = w.1.among.1 in omega arith in
      let there : get_or order i 0 ≡ w.0 = sym (get_or-take k order i 0 below) ∙ (get_or_default (take k order) i 0 w.0 w.1.among.1 ∙ w.1.among.2) in (
        w.0,
        record { among = subst (Contains order) there (Contains-get_or order i 0 (omega arith)); on = w.1.on },
        record { place = i; place' = k; less = below; within = lt; at = there; at' = refl },
      )

  pub no_circle : (a b : ℕ) → StandsBefore order a b → StandsBefore order b a → ⊥
  no_circle a b x y =
      let i = one_place x.place y.place' (let l = x.less in let w = x.within in omega arith) y.within (ap (λ r. (rule_at p r).var) (x.at ∙ sym y.at')) in
      let j = one_place x.place' y.place x.within (let l = y.less in let w = y.within in omega arith) (ap (λ r. (rule_at p r).var) (x.at' ∙ sym y.at)) in
      let l = x.less in
      let m = y.less in
      omega arith

  -- the rule of a variable on which a rule depends stands before that rule
  pub rests_on_earlier : (k var : ℕ) → k < length order → DependsOn p (get_or order k 0) var → has_rule p (take k order) var ≡ true
  rests_on_earlier k var lt rests = subst (λ v. has_rule p (take k order) v ≡ true) rests.on
      (All-contains (λ (c : Fact). IsTrue (needs_rules p c) → IsTrue (has_rule p (take k order) c.var)) _ rests.condition (added k lt).rests rests.among rests.needs)

-- ---- the values that rules give

module _ (p : Parts) (s : List ℕ) (layered : IsLayered p) (settled : IsSettled p s) where
  -- with the members that differ from their defaults, each variable has its value
  pub value_is : (layer var : ℕ) → value_with p layer s (differs p s) var ≡ get_or s var 0
  value_is layer v = elim (layer_decides p layer v) [
    | inr w ↦ given_off p layer s (differs p s) v w.0
    | inl w ↦ given_on p layer s (differs p s) v w.0 ∙ elim (differs_decides p s v) [
      | inl q ↦ ap (λ b. cond b (new_value_of p v) (default_of p v)) q.1 ∙ sym q.0
      | inr q ↦ ap (λ b. cond b (new_value_of p v) (default_of p v)) q.1 ∙ sym ((settled layer).new v w.0 q.1)
    ]
  ]

  module _ (rules : List ℕ) (rule : ℕ) (can : CanBeAdded p s rules rule) where
    pub on_a_layer : (layer : ℕ) × IsOnLayer p layer (rule_at p rule).var
    on_a_layer = on_some_layer p (rule_at p rule).var (layered.derived rule _ can.exists)

    pub added_differs : differs p s (rule_at p rule).var ≡ true
    added_differs = (settled on_a_layer.0).closed rule _ can.exists on_a_layer.1 can.can
        (λ j d lt. value_is on_a_layer.0 (get_or (rule_at p rule).conditions j d).var ∙ can.hold j d lt)

    pub added_value : (rule_at p rule).new ≡ get_or s (rule_at p rule).var 0
    added_value = sym (new_value_is p rule _ layered can.exists can.can) ∙ sym ((settled on_a_layer.0).new (rule_at p rule).var on_a_layer.1 added_differs)

  module _ (order : List ℕ) (is : IsOrder p s order) where
    -- a variable with a rule differs from its default
    pub has_differs : (var : ℕ) → has_rule p order var ≡ true → differs p s var ≡ true
    has_differs var has =
        let w = rule_of p order var has in
        let k = placed p s order is w.0 w.1.among in
        subst (λ v. differs p s v ≡ true) (ap (λ r. (rule_at p r).var) k.2 ∙ w.1.on) (added_differs (take k.0 order) (get_or order k.0 0) (added p s order is k.0 k.1))

    -- The variables with a rule are closed under the rules of a layer, if each variable of a lower layer has a rule that differs from its default.
    module _ (layer : ℕ) (below : (m var : ℕ) → m < layer → IsOnLayer p m var → differs p s var ≡ true → has_rule p order var ≡ true) where
      -- a condition that holds with these members holds, and its variable has a rule if it needs one
      met : (var : ℕ) (c : Fact) → IsOnLayer p layer var → LooksDown p var c → value_with p layer s (has_rule p order) c.var ≡ c.value
          → (get_or s c.var 0 ≡ c.value) × (needs_rules p c ≡ true → has_rule p order c.var ≡ true)
      met var c on down hold = elim (layer_decides p layer c.var) [
        | inr w ↦ (let holds : get_or s c.var 0 ≡ c.value = sym (given_off p layer s (has_rule p order) c.var w.0) ∙ hold in (
          holds,
          λ needs. elim (needs_cases p c) [
            | inr n ↦ absurd (false≢true (sym n.0 ∙ needs))
            | inl q ↦ below q.0 c.var (lower q.0 q.1 w.0) q.1 (differs_true p s c.var (λ e. q.2 (sym holds ∙ e)))
          ],
        ))
        | inl w ↦ elim (cases_Bool (has_rule p order c.var)) [
          | inl y ↦ (
            (settled layer).new c.var w.0 (has_differs c.var y)
                ∙ (sym (given_on p layer s (has_rule p order) c.var w.0 ∙ ap (λ b. cond b (new_value_of p c.var) (default_of p c.var)) y) ∙ hold),
            λ _. y,
          )
          | inr n ↦ absurd (let requires : c.value ≡ default_of p c.var = sym hold ∙ (given_on p layer s (has_rule p order) c.var w.0 ∙ ap (λ b. cond b (new_value_of p c.var) (default_of p c.var)) n) in
              let lt : layer < layer = (down layer layer on w.0).1 requires in
              omega arith)
        ]
      ]
        where
          lower : (m : ℕ) → IsOnLayer p m c.var → (IsOnLayer p layer c.var → ⊥) → m < layer
          lower m there off = elim (cases_eq m layer) [
            | inl e ↦ absurd (off (subst (λ l. IsOnLayer p l c.var) e there))
            | inr ne ↦ (let le : m ≤ layer = (down layer m on there).0 in omega arith)
          ]

      -- so a rule that fires with these members could be added if its variable had none
      fired : (k : ℕ) → k < length p.rules → IsOnLayer p layer (rule_at p k).var → CanFire p (rule_at p k)
          → AllHold (value_with p layer s (has_rule p order)) (rule_at p k).conditions → has_rule p order (rule_at p k).var ≡ true
      fired k lt on can hold = elim (cases_Bool (has_rule p order (rule_at p k).var)) [
        | inl y ↦ y
        | inr n ↦ absurd (is.whole k (record { exists = lt; can = can; hold = λ j d lt'. (its j d lt').0; new = n; rests = λ j d lt'. (its j d lt').1 }))
      ]
        where
          its : (j : ℕ) (d : Fact) → j < length (rule_at p k).conditions
              → (get_or s (get_or (rule_at p k).conditions j d).var 0 ≡ (get_or (rule_at p k).conditions j d).value)
              × (needs_rules p (get_or (rule_at p k).conditions j d) ≡ true → has_rule p order (get_or (rule_at p k).conditions j d).var ≡ true)
          its j d lt' = met (rule_at p k).var (get_or (rule_at p k).conditions j d) on ((layered.rules k _ lt can).order j d lt') (hold j d lt')

      closed : IsClosed p layer s (has_rule p order)
      closed k d lt = subst (λ (r : Effect). IsOnLayer p layer r.var → CanFire p r → AllHold (value_with p layer s (has_rule p order)) r.conditions → has_rule p order r.var ≡ true)
          (get_or_default p.rules k _ d lt) (fired k lt)

      here : (var : ℕ) → IsOnLayer p layer var → differs p s var ≡ true → has_rule p order var ≡ true
      here var on d = (settled layer).least (has_rule p order) closed var on d

    below_all : (n layer var : ℕ) → layer < n → IsOnLayer p layer var → differs p s var ≡ true → has_rule p order var ≡ true
    below_all zero layer var lt on d = absurd (omega arith)
    below_all (suc n) layer var lt on d = here layer (λ m v less on' d'. below_all n m v (omega arith) on' d') var on d

    pub some_rule : (layer var : ℕ) → IsOnLayer p layer var → IsTrue (has_rule p order var) ↔ IsTrue (differs p s var)
    some_rule layer var on = (has_differs var, below_all (suc layer) layer var (omega arith) on)

    module _ (var rule : ℕ) (its : IsRuleOf p order var rule) where
      place : (k : ℕ) × (k < length order) × (get_or order k 0 ≡ rule)
      place = placed p s order is rule its.among

      pub fires : AllHold (slice_index s) (rule_at p rule).conditions × ((rule_at p rule).new ≡ slice_index s var)
      fires =
          let can = subst (CanBeAdded p s (take place.0 order)) place.2 (added p s order is place.0 place.1) in
          (can.hold, added_value (take place.0 order) rule can ∙ ap (λ v. get_or s v 0) its.on)

      pub looks_down : All (λ (c : Fact). IsBasic p c.var ⊎ (RequiresLower p var c ⊎ RestsOnEarlier p order rule c)) (rule_at p rule).conditions
      looks_down j d lt = looks (get_or (rule_at p rule).conditions j d) (can.rests j d lt) ((layered.rules rule _ can.exists can.can).order j d lt)
        where
          can : CanBeAdded p s (take place.0 order) rule
          can = subst (CanBeAdded p s (take place.0 order)) place.2 (added p s order is place.0 place.1)

          looks : (c : Fact) → (needs_rules p c ≡ true → has_rule p (take place.0 order) c.var ≡ true) → LooksDown p (rule_at p rule).var c
              → IsBasic p c.var ⊎ (RequiresLower p var c ⊎ RestsOnEarlier p order rule c)
          looks c rests down = elim (needs_cases p c) [
            | inl q ↦ (let w = earlier p s order is place.0 c.var place.1 (rests q.3) in
                inr (inr (record { other = q.2; earlier = w.0; is = w.1; before = subst (StandsBefore order w.0) place.2 w.2 })))
            | inr q ↦ elim (layer_cases p c.var) [
              | inl basic ↦ inl basic
              | inr on ↦ (let own = on_a_layer (take place.0 order) rule can in
                  inr (inl (record {
                    default = q.1 on.0 on.1;
                    here = own.0;
                    there = on.0;
                    on = subst (IsOnLayer p own.0) its.on own.1;
                    on_there = on.1;
                    lower = (down own.0 on.0 own.1 on.1).1 (q.1 on.0 on.1);
                  })))
            ]
          ]
