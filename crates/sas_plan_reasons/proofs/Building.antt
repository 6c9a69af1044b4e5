-- How the order of derived values grows by a rule, how it begins, and how it ends.
use Rattle.sas_plan_reasons.proofs.Imports.{◌≡◌, ◌≢◌, ℕ, suc, ◌+◌, ◌<◌, ◌≤◌, ◌==◌, ◌||◌, Bool, true, false, is_some, List, [], ◌∷◌, ◌++◌, length, set, replicate, get_or, Option, None, Some, refl, sym, ◌∙◌, ap, subst, inl, inr, arith, All, Contains, cases_eq, cases_Bool, false≢true, same_Some, eq-eqb, leb_tells, All-nil, All-cons, All-head, All-tail, All-contains, All-permutation, Contains-push, Contains-push_cases, Contains-append_left, Contains-permutation, IsPermutation, length_permutation, get_or-set_same, get_or-set_other, length-set, get_or_default, length-replicate, get_or-replicate, get_or_past, cases_lt, contains_none, contains_head, contains_tail, contains_cases, is_lt, nat_cmp, IsUpperBound, Reverse, heap_items, IsOnLayer, CanFire, default_of, differs_not, IsLayered, IsSettled, Vec, Global, get_or_append_left, get_or_push, length-append, Fact, Parts, rule_at, IsRuleOn, WellRanged, change_of, change_within, IsFullIndex, RuleCondition, waiting_at, asking, occurrences, released, IsLowest, needs_rules, has_rule, CanBeAdded, open_with, IsReady, IsOrdered, unmet, work_left, HasNoneOpen, AreOpen, AreOpenAtFirst, OpenConditions, OrderSoFar, CanMeetAll, MeetsAll, giver_at, AreGivers, IsDerivedOrder, IsOrderSoFar, IsNext}
use Rattle.sas_plan_reasons.proofs.Derivation.{on_some_layer, needs_cases, rule_of, had_rule, on_a_layer, added_differs}
use Rattle.sas_plan_reasons.proofs.Orders.{added_one, has_more}
use Rattle.sas_plan_reasons.proofs.OpenConditions.{AreMet, met_when_none_open, none_open_when_met, closed, entry_for}

-- ---- what was read of a variable's rule

pub some_there : (givers : List (Option ℕ)) (var : ℕ) (at : Option ℕ) (b : Bool) → var < length givers → at ≡ get_or givers var at → b ≡ is_some at → b ≡ true
    → (giver : ℕ) × (giver_at givers var ≡ Some giver)
some_there givers var None b lt read tested y = absurd (false≢true (sym tested ∙ y))
some_there givers var (Some giver) b lt read tested y = (giver, get_or_default givers var None (Some giver) lt ∙ sym read)

pub none_there : (givers : List (Option ℕ)) (var : ℕ) (at : Option ℕ) (b : Bool) → var < length givers → at ≡ get_or givers var at → b ≡ is_some at → b ≡ false
    → giver_at givers var ≡ None
none_there givers var None b lt read tested n = sym read
none_there givers var (Some giver) b lt read tested n = absurd (false≢true (sym n ∙ tested))

-- ---- the next rule is looked at

rule_on : (p : Parts) → IsLayered p → (rule : ℕ) → rule < length p.rules → CanFire p (rule_at p rule) → (layer : ℕ) × IsRuleOn p layer rule
rule_on p layered rule lt can =
    let on = on_some_layer p (rule_at p rule).var (layered.derived rule _ lt) in
    (on.0, record { exists = lt; on = on.1; can = can })

module _ (p : Parts) (s : List ℕ) (o : OrderSoFar) (rule : ℕ) (is : IsNext p s rule o) where
  abbrev order : List ℕ
  order = o.order.rules.items

  abbrev var : ℕ
  var = (rule_at p rule).var

  pub within : WellRanged p → var < length o.order.givers.items
  within ranged = change_within p ranged rule is.next.exists (change_of (rule_at p rule)) refl (length o.order.givers.items) is.builds.givers.one_each

  can : has_rule p order var ≡ false → CanBeAdded p s order rule
  can new = let met = met_when_none_open p s order (rule_at p rule).conditions (sym (is.builds.counted.exact rule is.next.exists is.next.can) ∙ is.next.none) in
      record { exists = is.next.exists; can = is.next.can; hold = met.hold; new = new; rests = met.rests }

  lowest : has_rule p order var ≡ false → IsLowest (CanBeAdded p s order) rule
  lowest new = record {
    has = can new;
    first = λ lower lt its. elim (is.whole lower its) [
      | inl ready ↦ (let le : rule ≤ lower = All-contains (λ (e : Reverse ℕ). rule ≤ e.0) (heap_items o.open.ready) (entry_for lower) is.lowest ready in omega arith)
      | inr e ↦ omega arith
    ];
  }

  -- its variable has a rule already
  pub passed_over : (giver : ℕ) → giver_at o.order.givers.items var ≡ Some giver → IsOrderSoFar p s o
  passed_over giver at = record {
    builds = is.builds;
    whole = λ other its. elim (is.whole other its) [
      | inl ready ↦ ready
      | inr e ↦ absurd (false≢true (sym its.new ∙ subst (λ r. has_rule p order (rule_at p r).var ≡ true) (sym e) (had_rule p order var giver ((is.builds.givers.each var giver).0 at))))
    ];
  }

  module _ (none : giver_at o.order.givers.items var ≡ None) where
    new : has_rule p order var ≡ false
    new = elim (cases_Bool (has_rule p order var)) [
      | inr n ↦ n
      | inl y ↦ absurd (let w = rule_of p order var y in let e : None ≡ Some w.0 = sym none ∙ (is.builds.givers.each var w.0).1 w.1 in cc)
    ]

    needs : (c : Fact) → c.var ≡ var → c.value ≡ get_or s var 0 → needs_rules p c ≡ true
    needs c on value =
        let layered = is.builds.layered in
        let settled = is.builds.settled in
        let there = on_a_layer p s layered settled order rule (can new) in
        elim (needs_cases p c) [
          | inl q ↦ q.3
          | inr q ↦ absurd (differs_not p s var (added_differs p s layered settled order rule (can new))
              (sym value ∙ (q.1 there.0 (subst (IsOnLayer p there.0) (sym on) there.1) ∙ ap (default_of p) on)))
        ]

    -- the conditions on the variable's value are open
    opens : (cs : List Fact) → open_with p s order cs ≡ open_with p s (order ++ rule ∷ []) cs + asking var (get_or s var 0) cs
    opens = closed p s order rule var refl new needs (has_more p order rule)

    asked : (layer r : ℕ) → IsRuleOn p layer r → occurrences r (released (get_or s var 0) (waiting_at o.requiring var)) ≡ asking var (get_or s var 0) (rule_at p r).conditions
    asked layer r on = is.builds.requiring.each layer var (get_or s var 0) r on

    pub can_meet : CanMeetAll (waiting_at o.requiring var) (get_or s var 0) o.open
    can_meet = record {
      exist = λ k d lt. omega (arith, (is.builds.requiring.only var k d lt).1.exists, is.builds.counted.one_each);
      enough = λ k d lt.
          (let w = is.builds.requiring.only var k d lt in
          let r = (get_or (waiting_at o.requiring var) k d).rule in
          let a = asked w.0 r w.1 in
          let e = is.builds.counted.exact r w.1.exists w.1.can in
          let f = opens (rule_at p r).conditions in
          omega arith);
    }

    module _ (o' : OrderSoFar) (ranged : WellRanged p) (rules_are : o'.order.rules.items ≡ order ++ rule ∷ [])
        (givers_are : o'.order.givers.items ≡ set o.order.givers.items var (Some rule)) (same : o'.requiring ≡ o.requiring)
        (meets : MeetsAll (waiting_at o.requiring var) (get_or s var 0) o.open o'.open) where
      giver_here : giver_at o'.order.givers.items var ≡ Some rule
      giver_here = ap (λ gs. giver_at gs var) givers_are ∙ get_or-set_same o.order.givers.items var (Some rule) None (within ranged)

      giver_other : (v : ℕ) → v ≢ var → giver_at o'.order.givers.items v ≡ giver_at o.order.givers.items v
      giver_other v ne = ap (λ gs. giver_at gs v) givers_are ∙ get_or-set_other o.order.givers.items var v (Some rule) None ne

      givers : AreGivers p (order ++ rule ∷ []) o'.order.givers.items
      givers = record {
        one_each = ap length givers_are ∙ (length-set o.order.givers.items var (Some rule) ∙ is.builds.givers.one_each);
        each = λ v r. (
          (λ at. elim (cases_eq v var) [
            | inl e ↦ (let own : rule ≡ r = same_Some rule r (sym giver_here ∙ subst (λ x. giver_at o'.order.givers.items x ≡ Some r) e at) in
                record { among = subst (Contains (order ++ rule ∷ [])) own (Contains-push order rule); on = ap (λ x. (rule_at p x).var) (sym own) ∙ sym e })
            | inr ne ↦ (let old = (is.builds.givers.each v r).0 (sym (giver_other v ne) ∙ at) in
                record { among = Contains-append_left order (rule ∷ []) r old.among; on = old.on })
          ]),
          (λ its. elim (Contains-push_cases order rule r its.among) [
            | inr e ↦ subst (λ x. giver_at o'.order.givers.items x ≡ Some r) (ap (λ x. (rule_at p x).var) e ∙ its.on) (giver_here ∙ ap Some e)
            | inl old ↦ (let at = (is.builds.givers.each v r).1 (record { among = old; on = its.on }) in elim (cases_eq v var) [
              | inl e ↦ absurd (let f : None ≡ Some r = sym none ∙ subst (λ x. giver_at o.order.givers.items x ≡ Some r) e at in cc)
              | inr ne ↦ giver_other v ne ∙ at
            ])
          ]),
        );
      }

      exact : (r : ℕ) → r < length p.rules → CanFire p (rule_at p r) → get_or o'.open.counts.items r 0 ≡ open_with p s (order ++ rule ∷ []) (rule_at p r).conditions
      exact r lt fires =
          let on = rule_on p is.builds.layered r lt fires in
          let a = asked on.0 r on.1 in
          let b = meets.counts r in
          let e = is.builds.counted.exact r lt fires in
          let f = opens (rule_at p r).conditions in
          omega arith

      counted : AreOpen p s (order ++ rule ∷ []) o'.open
      counted = record {
        one_each = meets.closes.one_each ∙ is.builds.counted.one_each;
        exact = exact;
        ready = λ k d lt. elim (meets.closes.only k d lt) [
          | inl old ↦ (let its = All-contains (λ (e : Reverse ℕ). HasNoneOpen p o.open.counts.items e.0) (heap_items o.open.ready) (get_or (heap_items o'.open.ready) k d) is.builds.counted.ready old in
              record { exists = its.exists; can = its.can; none = (let f = meets.closes.falls (get_or (heap_items o'.open.ready) k d).0 in let z = its.none in omega arith) })
          | inr w ↦ (let of = All-contains (λ (x : RuleCondition). (layer : ℕ) × IsRuleOn p layer x.rule) (waiting_at o.requiring var) w.0.0 (is.builds.requiring.only var) w.0.1 in
              let on = subst (λ r. IsRuleOn p of.0 r) w.0.2 of.1 in
              record { exists = on.exists; can = on.can; none = w.1 })
        ];
        ordered = meets.closes.ordered is.builds.counted.ordered;
      }

      whole : (other : ℕ) → CanBeAdded p s (order ++ rule ∷ []) other → IsReady o'.open other
      whole other its = elim (meets.closes.joins other (exact other its.exists its.can ∙ none_open_when_met p s (order ++ rule ∷ []) (rule_at p other).conditions (record { hold = its.hold; rests = its.rests }))) [
        | inr ready ↦ ready
        | inl before ↦ from before (parts (has_rule p order (rule_at p other).var) ((rule_at p rule).var == (rule_at p other).var) (sym (has_more p order rule (rule_at p other).var) ∙ its.new))
      ]
        where
          parts : (a b : Bool) → (a || b) ≡ false → (a ≡ false) × (b ≡ false)
          parts false b e = (refl, e)
          parts true b e = absurd (false≢true (sym e))

          from : get_or o.open.counts.items other 0 ≡ 0 → (has_rule p order (rule_at p other).var ≡ false) × (((rule_at p rule).var == (rule_at p other).var) ≡ false) → IsReady o'.open other
          from before both =
              let met = met_when_none_open p s order (rule_at p other).conditions (sym (is.builds.counted.exact other its.exists its.can) ∙ before) in
              elim (is.whole other (record { exists = its.exists; can = its.can; hold = met.hold; new = both.0; rests = met.rests })) [
                | inl ready ↦ meets.closes.keeps other ready
                | inr e ↦ absurd (false≢true (sym both.1 ∙ eq-eqb (rule_at p rule).var (rule_at p other).var (ap (λ r. (rule_at p r).var) (sym e))))
              ]

      pub one_added : IsOrderSoFar p s o'
      one_added = record {
        builds = record {
          layered = is.builds.layered;
          settled = is.builds.settled;
          each = rw rules_are (added_one p s order rule is.builds.each (lowest new));
          givers = rw rules_are givers;
          requiring = rw same is.builds.requiring;
          counted = rw rules_are counted;
        };
        whole = rw rules_are whole;
      }

-- ---- a rule is taken from the heap

not_above : (a b : ℕ) → is_lt (nat_cmp b a) ≡ false → a ≤ b
not_above a b h = grind (arith, leb_tells, suc)

lowest_first : (x : Reverse ℕ) (items : List (Reverse ℕ)) → IsUpperBound (λ x y. nat_cmp y.0 x.0) x items → All (λ (e : Reverse ℕ). x.0 ≤ e.0) items
lowest_first x [] up = All-nil (λ (e : Reverse ℕ). x.0 ≤ e.0)
lowest_first x (e ∷ es) up = All-cons (λ (e : Reverse ℕ). x.0 ≤ e.0) e es (not_above x.0 e.0 up.0) (lowest_first x es up.1)

module _ (p : Parts) (s : List ℕ) (o o' : OrderSoFar) (x : Reverse ℕ) (is : IsOrderSoFar p s o) (order : o'.order ≡ o.order) (requiring : o'.requiring ≡ o.requiring)
    (counts : o'.open.counts ≡ o.open.counts) (popped : IsPermutation (heap_items o.open.ready) (x ∷ heap_items o'.open.ready))
    (keeps : IsOrdered o.open → IsOrdered o'.open × IsUpperBound (λ x y. nat_cmp y.0 x.0) x (heap_items o.open.ready)) where
  moved : (P : Reverse ℕ → Type 0) → All P (heap_items o.open.ready) → All P (x ∷ heap_items o'.open.ready)
  moved P all = All-permutation P (heap_items o.open.ready) (x ∷ heap_items o'.open.ready) popped all

  pub taken : IsNext p s x.0 o'
  taken =
      let all = moved (λ (e : Reverse ℕ). HasNoneOpen p o.open.counts.items e.0) is.builds.counted.ready in
      record {
        builds = record {
          layered = is.builds.layered;
          settled = is.builds.settled;
          each = rw order is.builds.each;
          givers = rw order is.builds.givers;
          requiring = rw requiring is.builds.requiring;
          counted = record {
            one_each = rw counts is.builds.counted.one_each;
            exact = rw (counts, order) is.builds.counted.exact;
            ready = rw counts (All-tail (λ (e : Reverse ℕ). HasNoneOpen p o.open.counts.items e.0) x (heap_items o'.open.ready) all);
            ordered = (keeps is.builds.counted.ordered).0;
          };
        };
        next = rw counts (All-head (λ (e : Reverse ℕ). HasNoneOpen p o.open.counts.items e.0) x (heap_items o'.open.ready) all);
        lowest = All-tail (λ (e : Reverse ℕ). x.0 ≤ e.0) x (heap_items o'.open.ready)
            (moved (λ (e : Reverse ℕ). x.0 ≤ e.0) (lowest_first x (heap_items o.open.ready) (keeps is.builds.counted.ordered).1));
        whole = λ other can. elim (contains_cases x (heap_items o'.open.ready) (entry_for other)
            (Contains-permutation (heap_items o.open.ready) (x ∷ heap_items o'.open.ready) (entry_for other) popped (is.whole other (rw order at can)))) [
              | inl e ↦ inr (sym (ap (λ (r : Reverse ℕ). r.0) e))
              | inr there ↦ inl there
            ];
      }

  pub fewer_left : work_left o'.open + 1 ≡ work_left o.open
  fewer_left = let l = length_permutation (heap_items o.open.ready) (x ∷ heap_items o'.open.ready) popped in let u = ap (λ (v : Vec ℕ Global). unmet v.items) counts in omega arith

-- ---- the beginning and the end

pub none_added : (p : Parts) (s : List ℕ) (o : OrderSoFar) → IsLayered p → IsSettled p s → o.order.rules.items ≡ [] → o.order.givers.items ≡ replicate (length p.variables) None
    → IsFullIndex p o.requiring → AreOpenAtFirst p s o.open → IsOrderSoFar p s o
none_added p s o layered settled rules_are givers_are requiring first = record {
  builds = record {
    layered = layered;
    settled = settled;
    each = rw rules_are (λ k lt. absurd (omega arith));
    givers = rw (rules_are, givers_are) (record {
      one_each = length-replicate (length p.variables) None;
      each = λ v r. ((λ at. absurd (none_given (length p.variables) v r at)), (λ its. absurd (contains_none r its.among)));
    });
    requiring = requiring;
    counted = rw rules_are first.counted;
  };
  whole = rw rules_are first.whole;
}
  where
    none_given : (n v r : ℕ) → giver_at (replicate n None) v ≡ Some r → ⊥
    none_given n v r at = elim (cases_lt v n) [
      | inl lt ↦ (let e : None ≡ Some r = sym (get_or-replicate n v None None lt) ∙ at in cc)
      | inr past ↦ (let e : None ≡ Some r = sym (get_or_past (replicate n None) v None (let none : Option ℕ = None in let l = length-replicate n none in omega arith)) ∙ at in cc)
    ]

pub all_added : (p : Parts) (s : List ℕ) (o : OrderSoFar) → IsOrderSoFar p s o → heap_items o.open.ready ≡ [] → IsDerivedOrder p s o.order
all_added p s o is none = record {
  is = record { each = is.builds.each; whole = λ rule can. contains_none (entry_for rule) (subst (λ l. Contains l (entry_for rule)) none (is.whole rule can)) };
  givers = is.builds.givers;
}

-- ---- the open conditions of the first rules

-- the first rules are counted, and those of them that can be added are ready
pub record OpenUpTo (p : Parts) (s : List ℕ) (n : ℕ) (o : OpenConditions) : Type 0 where
  pub so_far : length o.counts.items ≡ n
  pub exact : (rule : ℕ) → rule < n → get_or o.counts.items rule 0 ≡ open_with p s [] (rule_at p rule).conditions
  pub ready : All (λ (e : Reverse ℕ). HasNoneOpen p o.counts.items e.0 × (e.0 < n)) (heap_items o.ready)
  pub ordered : IsOrdered o
  pub whole : (rule : ℕ) → rule < n → CanBeAdded p s [] rule → IsReady o rule

pub all_open : (p : Parts) (s : List ℕ) (n : ℕ) (o : OpenConditions) → n ≡ length p.rules → OpenUpTo p s n o → AreOpenAtFirst p s o
all_open p s n o e up = record {
  counted = record {
    one_each = up.so_far ∙ e;
    exact = λ rule lt _. up.exact rule (rw e lt);
    ready = λ k d lt. (up.ready k d lt).0;
    ordered = up.ordered;
  };
  whole = λ rule can. up.whole rule (rw e can.exists) can;
}

module _ (p : Parts) (s : List ℕ) (n : ℕ) (o o' : OpenConditions) (count : ℕ) (within : n < length p.rules) (up : OpenUpTo p s n o)
    (counts : o'.counts.items ≡ o.counts.items ++ count ∷ []) (is : count ≡ open_with p s [] (rule_at p n).conditions) where
  counted_before : (rule : ℕ) → rule < n → get_or o'.counts.items rule 0 ≡ get_or o.counts.items rule 0
  counted_before rule lt = ap (λ cs. get_or cs rule 0) counts ∙ get_or_append_left o.counts.items (count ∷ []) 0 rule (let e = up.so_far in omega arith)

  counted_now : get_or o'.counts.items n 0 ≡ count
  counted_now = ap (λ cs. get_or cs n 0) counts ∙ get_or_push o.counts.items count 0 n up.so_far

  all_counted : (rule : ℕ) → rule < n + 1 → get_or o'.counts.items rule 0 ≡ open_with p s [] (rule_at p rule).conditions
  all_counted rule lt = elim (cases_eq rule n) [
    | inl e ↦ subst (λ r. get_or o'.counts.items r 0 ≡ open_with p s [] (rule_at p r).conditions) (sym e) (counted_now ∙ is)
    | inr ne ↦ counted_before rule (omega arith) ∙ up.exact rule (omega arith)
  ]

  so_far : length o'.counts.items ≡ n + 1
  so_far = let e = ap length counts in let l = length-append o.counts.items (count ∷ []) in let f = up.so_far in omega arith

  old_ready : All (λ (e : Reverse ℕ). HasNoneOpen p o'.counts.items e.0 × (e.0 < n + 1)) (heap_items o.ready)
  old_ready k d lt =
      let its = up.ready k d lt in
      let less = its.1 in
      (record { exists = its.0.exists; can = its.0.can; none = counted_before (get_or (heap_items o.ready) k d).0 less ∙ its.0.none }, omega arith)

  -- a rule that can't be added
  pub open_more : o'.ready ≡ o.ready → (count ≡ 0 → CanFire p (rule_at p n) → ⊥) → OpenUpTo p s (n + 1) o'
  open_more same none = record {
    so_far = so_far;
    exact = all_counted;
    ready = rw same old_ready;
    ordered = rw same up.ordered;
    whole = λ rule lt can. elim (cases_eq rule n) [
      | inr ne ↦ rw same (up.whole rule (omega arith) can)
      | inl e ↦ absurd (none (is ∙ none_open_when_met p s [] (rule_at p n).conditions
          (subst (λ r. AreMet p s [] (rule_at p r).conditions) e (record { hold = can.hold; rests = can.rests }))) (subst (λ r. CanFire p (rule_at p r)) e can.can))
    ];
  }

  -- a rule that is ready
  pub open_ready : IsPermutation (entry_for n ∷ heap_items o.ready) (heap_items o'.ready) → (IsOrdered o → IsOrdered o') → count ≡ 0 → CanFire p (rule_at p n) → OpenUpTo p s (n + 1) o'
  open_ready joined keeps none can = record {
    so_far = so_far;
    exact = all_counted;
    ready = All-permutation (λ (e : Reverse ℕ). HasNoneOpen p o'.counts.items e.0 × (e.0 < n + 1)) (entry_for n ∷ heap_items o.ready) (heap_items o'.ready) joined
        (All-cons (λ (e : Reverse ℕ). HasNoneOpen p o'.counts.items e.0 × (e.0 < n + 1)) (entry_for n) (heap_items o.ready)
        (record { exists = within; can = can; none = counted_now ∙ none }, omega arith) old_ready);
    ordered = keeps up.ordered;
    whole = λ rule lt its. Contains-permutation (entry_for n ∷ heap_items o.ready) (heap_items o'.ready) (entry_for rule) joined (elim (cases_eq rule n) [
      | inl e ↦ subst (λ r. Contains (entry_for n ∷ heap_items o.ready) (entry_for r)) (sym e) (contains_head (entry_for n) (heap_items o.ready))
      | inr ne ↦ contains_tail (entry_for n) (heap_items o.ready) (entry_for rule) (up.whole rule (omega arith) its)
    ]);
  }
