-- When the value of a variable changes: which counters change, and which rules are noted.
use Rattle.sas_axioms.proofs.Imports.{◌≡◌, ℕ, zero, suc, ◌+◌, ◌<◌, ◌≤◌, List, [], ◌∷◌, length, get_or, set, refl, sym, subst, inl, inr, arith, Contains, heap_items, eq-eqb, eqb_tells, Fact, Parts, rule_at, Work, ValueChange, RuleCondition, IsFullIndex, AreCounted, asking, occurrences, released, waiting_at, AsksAbout, CountsChange, IsRuleOn}
use Rattle.sas_axioms.proofs.AllConditions.{recounted}
use Rattle.sas_axioms.proofs.CountingEntries.{CountedEntries, counters_after}
use Rattle.sas_axioms.proofs.Tracking.{holding_when_zero, zero_when_holding}

-- a rule that waits for a value is among those that are released by it
released_there : (ws : List RuleCondition) (w : RuleCondition) → Contains ws w → 1 ≤ occurrences w.rule (released w.value ws)
released_there [] w there = absurd (omega (arith, there.1))
released_there (v ∷ vs) w (zero, lt, e) = subst (λ (u : RuleCondition). 1 ≤ occurrences u.rule (released u.value (v ∷ vs))) e (first v vs)
  where
    first : (v : RuleCondition) (vs : List RuleCondition) → 1 ≤ occurrences v.rule (released v.value (v ∷ vs))
    first v vs = rw (eq-eqb v.value v.value refl, eq-eqb v.rule v.rule refl) (omega arith)
released_there (v ∷ vs) w (suc k, lt, e) = behind (released_there vs w (k, omega arith, e))
  where
    behind : 1 ≤ occurrences w.rule (released w.value vs) → 1 ≤ occurrences w.rule (released w.value (v ∷ vs))
    behind ih = elim (eqb_tells v.value w.value) [ inl t ↦ rw t.0 (omega arith) | inr t ↦ rw t.0 ih ]

-- a fact that is asked for is a condition
asked_there : (var value : ℕ) (cs : List Fact) → 1 ≤ asking var value cs → (c : Fact) × Contains cs c × (c.var ≡ var)
asked_there var value [] le = absurd (omega arith)
asked_there var value (c ∷ cs) le = elim (eqb_tells c.var var) [
  | inl e ↦ (c, (zero, omega arith, refl), e.1)
  | inr ne ↦ (let rest = asked_there var value cs (let more : 1 ≤ 0 + asking var value cs = rw ne.0 at le in omega arith) in (rest.0, (suc rest.1.0, omega (arith, rest.1.1), rest.1.2), rest.2))
]

-- a rule that waits for a value of a variable asks about it
pub waiting_asks : (p : Parts) (index : List (List RuleCondition)) (var : ℕ) (w : RuleCondition) (layer : ℕ) → IsFullIndex p index → Contains (waiting_at index var) w → IsRuleOn p layer w.rule → AsksAbout p var w.rule
waiting_asks p index var w layer is_index there is =
    let e = is_index.each layer var w.value w.rule is in
    let le = released_there (waiting_at index var) w there in
    asked_there var w.value (rule_at p w.rule).conditions (omega arith)

pub moved_when_recounted : (p : Parts) (index : List (List RuleCondition)) (var : ℕ) (moved : ValueChange) → IsFullIndex p index → var < length p.variables
    → (s : List ℕ) (w w' : Work) (i : ℕ) → AreCounted p s w.counters → get_or s var 0 ≡ moved.former → i ≡ length (waiting_at index var)
    → CountedEntries p moved (waiting_at index var) i w w' → CountsChange p var s w (set s var moved.value) w'
moved_when_recounted p index var moved is_index exists s w w' i counts is all counted = record {
  counts = after;
  crossed = λ layer rule le on. elim (counted.crossed layer rule on) [
    | inl noted ↦ inl noted
    | inr alike ↦ inr (
      (λ hold. holding_when_zero p layer rule (set s var moved.value) w'.counters after on (alike.0 (zero_when_holding p layer rule s w.counters counts on hold))),
      (λ hold. holding_when_zero p layer rule s w.counters counts on (alike.1 (zero_when_holding p layer rule (set s var moved.value) w'.counters after on hold))),
    )
  ];
  notes = record {
    keeps = counted.notes.keeps;
    only = λ k d lt. elim (counted.notes.only k d lt) [
      | inl there ↦ inl there
      | inr new ↦ inr (new.0, subst (λ r. AsksAbout p var r) new.1.2 (waiting_asks p index var new.1.0 (get_or (heap_items w'.agenda.noted) k d).0.layer is_index new.1.1 (rw (sym new.1.2) at new.0)))
    ];
    ordered = counted.notes.ordered;
    ready = counted.notes.ready;
  };
  left = let le = counted.left in omega arith;
}
  where
    after : AreCounted p (set s var moved.value) w'.counters
    after = recounted p index var is_index exists s w.counters counts moved.value w'.counters counted.same.one_each
        (rw (sym is) at (counters_after moved (waiting_at index var) i w.counters w'.counters all counted.counters))
