-- The open conditions of rules, and what closing some of them does.
use Rattle.sas_plan_reasons.proofs.Imports.{◌≡◌, ◌≢◌, ℕ, zero, suc, ◌+◌, ◌<◌, ◌≤◌, ◌⊎◌, ◌==◌, ◌&&◌, ◌||◌, Bool, true, false, not, if◌then◌else◌, IsTrue, List, [], ◌∷◌, ◌++◌, length, drop, set, get_or, refl, sym, ◌∙◌, ap, subst, inl, inr, arith, All, Contains, cases_eq, cases_Bool, false≢true, eqb_tells, eq-eqb, All-nil, All-cons, All-head, All-tail, All-contains, Contains-get_or, get_or-set_same, get_or-set_other, length-set, drop_all, drop_more, IsPermutation, IsPermutation-sym, Contains-permutation, length_permutation, contains_head, contains_tail, contains_cases, contains_none, Fact, Parts, rule_at, slice_index, AllHold, Holds, needs_rules, has_rule, asking, occurrences, released, RuleCondition, Reverse, heap_items, OpenConditions, is_met, open_with, IsReady, IsOrdered, unmet, Closes, CanMeetAll, MeetsAll, Meets}

-- ---- no open conditions

-- conditions hold, and their variables have rules where they need them
pub record AreMet (p : Parts) (s rules : List ℕ) (cs : List Fact) : Type 0 where
  pub hold : AllHold (slice_index s) cs
  pub rests : All (λ (c : Fact). IsTrue (needs_rules p c) → IsTrue (has_rule p rules c.var)) cs

module _ (p : Parts) (s rules : List ℕ) where
  abbrev Rests : Fact → Type 0
  Rests c = needs_rules p c ≡ true → has_rule p rules c.var ≡ true

  met_cases : (c : Fact) → ((is_met p s rules c ≡ true) × Holds (slice_index s) c × Rests c) ⊎ ((is_met p s rules c ≡ false) × (Holds (slice_index s) c → Rests c → ⊥))
  met_cases c = elim (eqb_tells (get_or s c.var 0) c.value) [
    | inr n ↦ inr (ap (λ b. b && (not (needs_rules p c) || has_rule p rules c.var)) n.0, λ h _. n.1 h)
    | inl y ↦ elim (cases_Bool (needs_rules p c)) [
      | inr none ↦ inl (
        ap (λ b. b && (not (needs_rules p c) || has_rule p rules c.var)) y.0 ∙ ap (λ b. not b || has_rule p rules c.var) none,
        y.1,
        λ needs. absurd (false≢true (sym none ∙ needs)),
      )
      | inl needs ↦ elim (cases_Bool (has_rule p rules c.var)) [
        | inl has ↦ inl (
          ap (λ b. b && (not (needs_rules p c) || has_rule p rules c.var)) y.0 ∙ (ap (λ b. not b || has_rule p rules c.var) needs ∙ has),
          y.1,
          λ _. has,
        )
        | inr none ↦ inr (
          ap (λ b. b && (not (needs_rules p c) || has_rule p rules c.var)) y.0 ∙ (ap (λ b. not b || has_rule p rules c.var) needs ∙ none),
          λ _ rests. false≢true (sym none ∙ rests needs),
        )
      ]
    ]
  ]

  pub met_when_none_open : (cs : List Fact) → open_with p s rules cs ≡ 0 → AreMet p s rules cs
  met_when_none_open [] none = record { hold = All-nil (Holds (slice_index s)); rests = All-nil Rests }
  met_when_none_open (c ∷ cs) none = elim (met_cases c) [
    | inl y ↦ (let more = met_when_none_open cs (omega arith) in
        record { hold = All-cons (Holds (slice_index s)) c cs y.1 more.hold; rests = All-cons Rests c cs y.2 more.rests })
    | inr n ↦ absurd (let e : 1 + open_with p s rules cs ≡ 0 = rw n.0 at none in omega arith)
  ]

  pub none_open_when_met : (cs : List Fact) → AreMet p s rules cs → open_with p s rules cs ≡ 0
  none_open_when_met [] met = refl
  none_open_when_met (c ∷ cs) met = elim (met_cases c) [
    | inl y ↦ (let more = none_open_when_met cs (record { hold = All-tail (Holds (slice_index s)) c cs met.hold; rests = All-tail Rests c cs met.rests }) in
        rw y.0 (omega arith))
    | inr n ↦ absurd (n.1 (All-head (Holds (slice_index s)) c cs met.hold) (All-head Rests c cs met.rests))
  ]

-- ---- a variable gets a rule

or_false : (b : Bool) → (b || false) ≡ b
or_false true = refl
or_false false = refl

or_true : (b : Bool) → (b || true) ≡ true
or_true true = refl
or_true false = refl

-- The rule of a derived variable that differs from its default is added. This closes the conditions on the variable's value.
module _ (p : Parts) (s rules : List ℕ) (rule var : ℕ) (on : (rule_at p rule).var ≡ var) (new : has_rule p rules var ≡ false)
    (needs : (c : Fact) → c.var ≡ var → c.value ≡ get_or s var 0 → needs_rules p c ≡ true)
    (has : (u : ℕ) → has_rule p (rules ++ rule ∷ []) u ≡ (has_rule p rules u || ((rule_at p rule).var == u))) where
  one_closed : (c : Fact) → (if is_met p s rules c then 0 else 1)
      ≡ (if is_met p s (rules ++ rule ∷ []) c then 0 else 1) + (if (c.var == var) && (c.value == get_or s var 0) then 1 else 0)
  one_closed c = elim (eqb_tells c.var var) [
    | inr ne ↦ (let same : has_rule p (rules ++ rule ∷ []) c.var ≡ has_rule p rules c.var = other ne.1 in
        let met : is_met p s (rules ++ rule ∷ []) c ≡ is_met p s rules c = ap (λ b. (get_or s c.var 0 == c.value) && (not (needs_rules p c) || b)) same in
        rw (met, ne.0) (omega arith))
    | inl e ↦ elim (eqb_tells (get_or s c.var 0) c.value) [
      | inr n ↦ (let fails : (more : List ℕ) → is_met p s more c ≡ false = λ more. ap (λ b. b && (not (needs_rules p c) || has_rule p more c.var)) n.0 in
          elim (eqb_tells c.value (get_or s var 0)) [
            | inl z ↦ absurd (n.1 (ap (λ v. get_or s v 0) e.1 ∙ sym z.1))
            | inr z ↦ rw (fails rules, fails (rules ++ rule ∷ []), e.0, z.0) (omega arith)
          ])
      | inl y ↦ (let value : c.value ≡ get_or s var 0 = sym y.1 ∙ ap (λ v. get_or s v 0) e.1 in
          let test : (more : List ℕ) → is_met p s more c ≡ has_rule p more c.var = λ more.
          ap (λ b. b && (not (needs_rules p c) || has_rule p more c.var)) y.0 ∙ ap (λ b. not b || has_rule p more c.var) (needs c e.1 value) in
          rw (
            test rules,
            ap (λ v. has_rule p rules v) e.1 ∙ new,
            test (rules ++ rule ∷ []),
            own e.1,
            e.0,
            eq-eqb c.value (get_or s var 0) value,
          ) (omega arith))
    ]
  ]
    where
      other : c.var ≢ var → has_rule p (rules ++ rule ∷ []) c.var ≡ has_rule p rules c.var
      other ne = has c.var ∙ elim (eqb_tells (rule_at p rule).var c.var) [
        | inl e ↦ absurd (ne (sym e.1 ∙ on))
        | inr n ↦ ap (λ b. has_rule p rules c.var || b) n.0 ∙ or_false (has_rule p rules c.var)
      ]

      own : c.var ≡ var → has_rule p (rules ++ rule ∷ []) c.var ≡ true
      own e = has c.var ∙ (ap (λ b. has_rule p rules c.var || b) (eq-eqb (rule_at p rule).var c.var (on ∙ sym e)) ∙ or_true (has_rule p rules c.var))

  pub closed : (cs : List Fact) → open_with p s rules cs ≡ open_with p s (rules ++ rule ∷ []) cs + asking var (get_or s var 0) cs
  closed [] = refl
  closed (c ∷ cs) = let ih = closed cs in let e = one_closed c in omega arith

-- ---- a condition is closed

unmet_fewer : (counts : List ℕ) (rule : ℕ) → rule < length counts → get_or counts rule 0 ≡ 1 → unmet (set counts rule 0) + 1 ≡ unmet counts
unmet_fewer [] rule lt is = absurd (omega arith)
unmet_fewer (zero ∷ cs) zero lt is = absurd (omega arith)
unmet_fewer (suc c ∷ cs) zero lt is = refl
unmet_fewer (zero ∷ cs) (suc rule) lt is = unmet_fewer cs rule (omega arith) is
unmet_fewer (suc c ∷ cs) (suc rule) lt is = let ih = unmet_fewer cs rule (omega arith) is in omega arith

unmet_same : (counts : List ℕ) (rule n : ℕ) → rule < length counts → get_or counts rule 0 ≡ suc (suc n) → unmet (set counts rule (suc n)) ≡ unmet counts
unmet_same [] rule n lt is = absurd (omega arith)
unmet_same (zero ∷ cs) zero n lt is = absurd (omega arith)
unmet_same (suc c ∷ cs) zero n lt is = refl
unmet_same (zero ∷ cs) (suc rule) n lt is = unmet_same cs rule n (omega arith) is
unmet_same (suc c ∷ cs) (suc rule) n lt is = let ih = unmet_same cs rule n (omega arith) is in omega arith

-- a rule as it stands in the heap
abbrev pub entry_for : ℕ → Reverse ℕ
entry_for rule = record { 0 = rule }

module _ (o o' : OpenConditions) (rule n : ℕ) (lt : rule < length o.counts.items) (is : get_or o.counts.items rule 0 ≡ n + 1)
    (set_to : o'.counts.items ≡ set o.counts.items rule n) where
  here : get_or o'.counts.items rule 0 ≡ n
  here = ap (λ xs. get_or xs rule 0) set_to ∙ get_or-set_same o.counts.items rule n 0 lt

  other : (r : ℕ) → r ≢ rule → get_or o'.counts.items r 0 ≡ get_or o.counts.items r 0
  other r ne = ap (λ xs. get_or xs r 0) set_to ∙ get_or-set_other o.counts.items rule r n 0 ne

  falls : (r : ℕ) → get_or o'.counts.items r 0 ≤ get_or o.counts.items r 0
  falls r = elim (cases_eq r rule) [
    | inl e ↦ subst (λ x. get_or o'.counts.items x 0 ≤ get_or o.counts.items x 0) (sym e) (let h = here in omega arith)
    | inr ne ↦ (let e = other r ne in omega arith)
  ]

  -- the rule becomes ready
  pub closed_last : n ≡ 0 → IsPermutation (entry_for rule ∷ heap_items o.ready) (heap_items o'.ready) → (IsOrdered o → IsOrdered o') → Meets rule o o'
  closed_last none joined ordered = record {
    counts = (let h = here in omega arith);
    others = other;
    closes = λ value. record {
      one_each = ap length set_to ∙ length-set o.counts.items rule n;
      falls = falls;
      keeps = λ r there. Contains-permutation (entry_for rule ∷ heap_items o.ready) (heap_items o'.ready) (entry_for r) joined
          (contains_tail (entry_for rule) (heap_items o.ready) (entry_for r) there);
      joins = λ r zero. elim (cases_eq r rule) [
        | inl e ↦ inr (subst (IsReady o') (sym e) (Contains-permutation (entry_for rule ∷ heap_items o.ready) (heap_items o'.ready) (entry_for rule) joined
            (contains_head (entry_for rule) (heap_items o.ready))))
        | inr ne ↦ inl (sym (other r ne) ∙ zero)
      ];
      only = λ k d below. elim (contains_cases (entry_for rule) (heap_items o.ready) (get_or (heap_items o'.ready) k d)
          (Contains-permutation (heap_items o'.ready) (entry_for rule ∷ heap_items o.ready) (get_or (heap_items o'.ready) k d)
          (IsPermutation-sym (entry_for rule ∷ heap_items o.ready) (heap_items o'.ready) joined) (Contains-get_or (heap_items o'.ready) k d below))) [
            | inr there ↦ inl there
            | inl e ↦ (let same : rule ≡ (get_or (heap_items o'.ready) k d).0 = ap (λ (x : Reverse ℕ). x.0) e in
                inr ((record { value = value; rule = rule }, contains_head (record { value = value; rule = rule }) [], same), subst (λ r. get_or o'.counts.items r 0 ≡ 0) same (here ∙ none)))
          ];
      ordered = ordered;
      left = (let f = unmet_fewer o.counts.items rule lt (is ∙ ap (λ m. m + 1) none) in
          let g = ap unmet (set_to ∙ ap (set o.counts.items rule) none) in
          let l = length_permutation (entry_for rule ∷ heap_items o.ready) (heap_items o'.ready) joined in
          omega arith);
    };
  }

  -- it has others
  pub closed_one : n ≢ 0 → o'.ready ≡ o.ready → Meets rule o o'
  closed_one some same = record {
    counts = (let h = here in omega arith);
    others = other;
    closes = λ value. record {
      one_each = ap length set_to ∙ length-set o.counts.items rule n;
      falls = falls;
      keeps = λ r there. rw same there;
      joins = λ r zero. elim (cases_eq r rule) [
        | inl e ↦ absurd (some (sym here ∙ (ap (λ x. get_or o'.counts.items x 0) (sym e) ∙ zero)))
        | inr ne ↦ inl (sym (other r ne) ∙ zero)
      ];
      only = rw same (λ k d below. inl (Contains-get_or (heap_items o.ready) k d below));
      ordered = λ h. rw same h;
      left = (let l = ap (λ h. length (heap_items h)) same in let e = rest n refl in omega arith);
    };
  }
    where
      rest : (m : ℕ) → m ≡ n → unmet o'.counts.items ≡ unmet o.counts.items
      rest zero e = absurd (some (sym e))
      rest (suc m) e = ap unmet (set_to ∙ ap (set o.counts.items rule) (sym e)) ∙ unmet_same o.counts.items rule m lt (is ∙ (let f : n + 1 ≡ suc (suc m) = omega arith in f))

-- ---- several are closed

pub closes_none : (ws : List RuleCondition) (o : OpenConditions) → Closes ws o o
closes_none ws o = record {
  one_each = refl;
  falls = λ r. omega arith;
  keeps = λ r there. there;
  joins = λ r zero. inl zero;
  only = λ k d lt. inl (Contains-get_or (heap_items o.ready) k d lt);
  ordered = λ h. h;
  left = omega arith;
}

pub closes_more : (ws : List RuleCondition) (w : RuleCondition) (a b c : OpenConditions) → Contains ws w → Closes ws a b → Closes (w ∷ []) b c → Closes ws a c
closes_more ws w a b c among x y = record {
  one_each = y.one_each ∙ x.one_each;
  falls = λ r. let f = x.falls r in let g = y.falls r in omega arith;
  keeps = λ r there. y.keeps r (x.keeps r there);
  joins = λ r zero. elim (y.joins r zero) [
    | inr there ↦ inr there
    | inl before ↦ elim (x.joins r before) [ inl first ↦ inl first | inr there ↦ inr (y.keeps r there) ]
  ];
  only = λ k d lt. elim (y.only k d lt) [
    | inr new ↦ inr ((w, among, its (get_or (heap_items c.ready) k d).0 new.0), new.1)
    | inl there ↦ elim (All-contains (λ (e : Reverse ℕ). Contains (heap_items a.ready) e ⊎ (((w : RuleCondition) × Contains ws w × (w.rule ≡ e.0)) × (get_or b.counts.items e.0 0 ≡ 0)))
        (heap_items b.ready) (get_or (heap_items c.ready) k d) x.only there) [
          | inl first ↦ inl first
          | inr old ↦ inr (old.0, (let f = y.falls (get_or (heap_items c.ready) k d).0 in let z = old.1 in omega arith))
        ]
  ];
  ordered = λ h. y.ordered (x.ordered h);
  left = (let f = x.left in let g = y.left in omega arith);
}
  where
    its : (r : ℕ) → ((v : RuleCondition) × Contains (w ∷ []) v × (v.rule ≡ r)) → w.rule ≡ r
    its r v = elim (contains_cases w [] v.0 v.1) [ inl e ↦ ap (λ (x : RuleCondition). x.rule) e ∙ v.2 | inr none ↦ absurd (contains_none v.0 none) ]

abbrev pub no_entry : RuleCondition
no_entry = record { value = 0; rule = 0 }

-- the first i are closed
pub record ClosesUpTo (ws : List RuleCondition) (value i : ℕ) (o o' : OpenConditions) : Type 0 where
  pub closes : Closes ws o o'
  pub counts : (rule : ℕ) → get_or o'.counts.items rule 0 + occurrences rule (released value ws)
      ≡ get_or o.counts.items rule 0 + occurrences rule (released value (drop i ws))

pub closes_first : (ws : List RuleCondition) (value : ℕ) (o : OpenConditions) → ClosesUpTo ws value 0 o o
closes_first ws value o = record { closes = closes_none ws o; counts = λ rule. refl }

pub closes_all : (ws : List RuleCondition) (value i : ℕ) (o o' : OpenConditions) → length ws ≤ i → ClosesUpTo ws value i o o' → MeetsAll ws value o o'
closes_all ws value i o o' done up = record {
  closes = up.closes;
  counts = λ rule. let e = up.counts rule in let f = ap (λ l. occurrences rule (released value l)) (drop_all i ws done) in omega arith;
}

module _ (ws : List RuleCondition) (value i : ℕ) (o now : OpenConditions) (lt : i < length ws) (up : ClosesUpTo ws value i o now) where
  abbrev this : RuleCondition
  this = get_or ws i no_entry

  left_is : (rule : ℕ) → occurrences rule (released value (drop i ws)) ≡ occurrences rule (released value (this ∷ drop (i + 1) ws))
  left_is rule = ap (λ l. occurrences rule (released value l)) (drop_more ws i no_entry lt)

  -- one that is on another value
  pub closes_passed : this.value ≢ value → ClosesUpTo ws value (i + 1) o now
  closes_passed ne = record {
    closes = up.closes;
    counts = λ rule. let e = up.counts rule in let l = left_is rule in elim (eqb_tells this.value value) [
      | inl same ↦ absurd (ne same.1)
      | inr other ↦ (let m : occurrences rule (released value (drop i ws)) ≡ occurrences rule (released value (drop (i + 1) ws)) = rw other.0 at l in omega arith)
    ];
  }

  module _ (same : this.value ≡ value) where
    own_left : occurrences this.rule (released value (drop i ws)) ≡ 1 + occurrences this.rule (released value (drop (i + 1) ws))
    own_left = rw (eq-eqb this.value value same, eq-eqb this.rule this.rule refl) at (left_is this.rule)

    others_left : (rule : ℕ) → rule ≢ this.rule → occurrences rule (released value (drop i ws)) ≡ occurrences rule (released value (drop (i + 1) ws))
    others_left rule ne = elim (eqb_tells this.rule rule) [
      | inl e ↦ absurd (ne (sym e.1))
      | inr n ↦ (let l : occurrences rule (released value (drop i ws)) ≡ 0 + occurrences rule (released value (drop (i + 1) ws)) = rw (eq-eqb this.value value same, n.0) at (left_is rule) in omega arith)
    ]

    pub some_left : CanMeetAll ws value o → 0 < get_or now.counts.items this.rule 0
    some_left can = let e = up.counts this.rule in let l = own_left in let le = can.enough i no_entry lt in omega arith

    pub closes_met : (next : OpenConditions) → Meets this.rule now next → ClosesUpTo ws value (i + 1) o next
    closes_met next met = record {
      closes = closes_more ws (record { value = this.value; rule = this.rule }) o now next (Contains-get_or ws i no_entry lt) up.closes (met.closes this.value);
      counts = λ rule. let e = up.counts rule in elim (cases_eq rule this.rule) [
        | inl is ↦ subst (λ r. get_or next.counts.items r 0 + occurrences r (released value ws) ≡ get_or o.counts.items r 0 + occurrences r (released value (drop (i + 1) ws))) (sym is)
            (let c = met.counts in let f = up.counts this.rule in let l = own_left in omega arith)
        | inr ne ↦ (let c = met.others rule ne in let l = others_left rule ne in omega arith)
      ];
    }
