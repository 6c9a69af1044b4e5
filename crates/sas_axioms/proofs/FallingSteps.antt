-- Resetting the variables of a layer one by one, and the rules that depend on them.
use Rattle.sas_axioms.proofs.Imports.{◌≡◌, ◌≢◌, ◌⊎◌, ℕ, ◌+◌, ◌<◌, true, List, [], ◌∷◌, length, get_or, set, sym, ◌∙◌, ap, subst, inl, inr, arith, All, Contains, cases_eq, get_or-set_same, get_or-set_other, All-nil, All-cons, Contains-append_left, Contains-append_right, Contains-push, Parts, Change, change_of, rule_at, IsState, IsOnLayer, default_of, Agenda, Work, entry_for, IsOnAgenda, IsAwaited, AreBehind, RemovesFromAgenda, IsMadeReady, AreMadeReady, work_left, SameFrom, IsUpdatedTo, ChangesAreNoted, SameWork, CountsChange, IsFalling, IsRising, IsHolding, IsRuleOn, IsLayered, differs, differs_same, differs_not, heap_items}
use Rattle.sas_axioms.proofs.OneLayer.{one_layer}
use Rattle.sas_axioms.proofs.Sources.{sources_fall}
use Rattle.sas_axioms.proofs.Tracking.{with_agenda, awaited_on, track_taken, track_ready, asks_down, track_moved}

-- a rule behind the layer stays noted where one of the layer is taken off
pub noted_taken : (p : Parts) (layer rule : ℕ) (s0 s : List ℕ) (a a' : Agenda) → IsRuleOn p layer rule → RemovesFromAgenda layer rule a a' → ChangesAreNoted p (layer + 1) s0 s a → ChangesAreNoted p (layer + 1) s0 s a'
noted_taken p layer rule s0 s a a' is takes noted m other le on = elim (noted m other le on) [
  | inr same ↦ inr same
  | inl there ↦ elim (takes.noted m other there) [
    | inl still ↦ inl still
    | inr e ↦ (let same : m ≡ layer = one_layer p m layer rule (subst (λ r. IsRuleOn p m r) e on) is in absurd (omega arith))
  ]
]

-- and the update has come as far as before
pub updated_taken : (p : Parts) (layer rule : ℕ) (s0 s : List ℕ) (w : Work) (a a' : Agenda) → IsRuleOn p layer rule → RemovesFromAgenda layer rule w.agenda a → a'.noted ≡ a.noted
    → IsUpdatedTo p (layer + 1) s0 s w → IsUpdatedTo p (layer + 1) s0 s (with_agenda w a')
updated_taken p layer rule s0 s w a a' is takes same to = record {
  settled = to.settled;
  same = to.same;
  noted = rw same (noted_taken p layer rule s0 s w.agenda a is takes to.noted);
  have = to.have;
  held = to.held;
}

-- what two states share, and what they and a third share
pub noted_moved : (p : Parts) (from var : ℕ) (s0 s s' : List ℕ) (w w' : Work) → CountsChange p var s w s' w' → ChangesAreNoted p from s0 s w.agenda → ChangesAreNoted p from s0 s' w'.agenda
noted_moved p from var s0 s s' w w' moves noted m other le on = elim (moves.crossed m other (omega arith) on) [
  | inl there ↦ inl there
  | inr crossed ↦ elim (noted m other le on) [
    | inl there ↦ inl (moves.notes.keeps m other there)
    | inr same ↦ inr ((λ h. crossed.0 (same.0 h)), (λ h. same.1 (crossed.1 h)))
  ]
]

-- a variable of the layer changes none behind it
pub same_moved : (p : Parts) (layer var value : ℕ) (s0 s : List ℕ) → IsOnLayer p layer var → SameFrom p (layer + 1) s0 s → SameFrom p (layer + 1) s0 (set s var value)
same_moved p layer var value s0 s on same m v le on_v =
    same m v le on_v ∙ sym (get_or-set_other s var v value 0 (λ e. (let a = subst (λ x. IsOnLayer p layer x) (sym e) on in let b = on_v in let f : m ≡ layer = cc in absurd (omega arith))))

-- what is awaited is still so where a rule is taken off, but for that one
pub still_awaited : (layer rule : ℕ) (a a' : Agenda) → RemovesFromAgenda layer rule a a' → (other : ℕ) → IsAwaited a layer other → IsAwaited a' layer other ⊎ (other ≡ rule)
still_awaited layer rule a a' takes other awaited = elim awaited [
  | inl noted ↦ elim (takes.noted layer other noted) [ inl still ↦ inl (inl still) | inr e ↦ inr e ]
  | inr ready ↦ elim (takes.ready other ready) [ inl still ↦ inl (inr still) | inr e ↦ inr e ]
]

-- the rule that is taken off holds, or gives nothing: it is made ready
pub falling_passed : (p : Parts) (s0 s : List ℕ) (rule : ℕ) (w : Work) (a a' : Agenda) → IsFalling p s0 s w → RemovesFromAgenda w.layer rule w.agenda a
    → (get_or w.sources (rule_at p rule).var 0 ≡ rule → differs p s (rule_at p rule).var ≡ true → IsHolding p s rule) → IsMadeReady rule a a' → IsFalling p s0 s (with_agenda w a')
falling_passed p s0 s rule w a a' falling takes holds made = record {
  track = track_ready p w.layer s (with_agenda w a) a' (rule ∷ []) (track_taken p w.layer rule s w a falling.track takes) one made.ready made.noted;
  to = updated_taken p w.layer rule s0 s w a a' is takes made.noted falling.to;
  sources = λ v on d. elim (falling.sources v on d) [
    | inl hold ↦ inl hold
    | inr noted ↦ elim (takes.noted w.layer (get_or w.sources v 0) noted) [ inl still ↦ inr (rw made.noted still) | inr e ↦ inl (source_holds v on d e) ]
  ];
  fired = λ other on hold. elim (falling.fired other on hold) [
    | inl d ↦ inl d
    | inr awaited ↦ elim (still_awaited w.layer rule w.agenda a takes other awaited) [
      | inl (inl noted) ↦ inr (inl (rw made.noted noted))
      | inl (inr ready) ↦ inr (inr (rw made.ready (Contains-append_left a.ready.items (rule ∷ []) other ready)))
      | inr e ↦ inr (inr (rw (made.ready, e) (Contains-push a.ready.items rule)))
    ]
  ];
}
  where
    is : IsRuleOn p w.layer rule
    is = awaited_on p w.layer rule s w falling.track takes.was

    one : All (λ (r : ℕ). IsRuleOn p w.layer r) (rule ∷ [])
    one = All-cons (λ (r : ℕ). IsRuleOn p w.layer r) rule [] is (All-nil (λ (r : ℕ). IsRuleOn p w.layer r))

    source_holds : (v : ℕ) → IsOnLayer p w.layer v → differs p s v ≡ true → get_or w.sources v 0 ≡ rule → IsHolding p s (get_or w.sources v 0)
    source_holds v on d e =
        let its : (rule_at p rule).var ≡ v = subst (λ r. (rule_at p r).var ≡ v) e ((falling.to.have w.layer).source v on d).sets in
        subst (λ r. IsHolding p s r) (sym e) (holds (subst (λ u. get_or w.sources u 0 ≡ rule) (sym its) e) (subst (λ u. differs p s u ≡ true) (sym its) d))

-- all rules of its variable are made ready, and the variable falls
module _ (p : Parts) (s0 s : List ℕ) (rule : ℕ) (w : Work) (a a' : Agenda) (w' : Work) (rules : List ℕ) (layered : IsLayered p) (falling : IsFalling p s0 s w)
    (takes : RemovesFromAgenda w.layer rule w.agenda a) (within : (rule_at p rule).var < length s) (state : IsState p.variables (set s (rule_at p rule).var (default_of p (rule_at p rule).var)))
    (made : AreMadeReady rules a a') (same : SameWork (with_agenda w a') w') (moves : CountsChange p (rule_at p rule).var s (with_agenda w a') (set s (rule_at p rule).var (default_of p (rule_at p rule).var)) w')
    (all : All (λ (r : ℕ). IsRuleOn p w.layer r) rules) (each : (other : ℕ) → IsRuleOn p w.layer other → (rule_at p other).var ≡ (rule_at p rule).var → Contains rules other) where
  is : IsRuleOn p w.layer rule
  is = awaited_on p w.layer rule s w falling.track takes.was

  abbrev var : ℕ
  var = (rule_at p rule).var

  abbrev after : List ℕ
  after = set s (rule_at p rule).var (default_of p (rule_at p rule).var)

  -- a variable that differs still isn't the one that fell
  other_var : (v : ℕ) → differs p after v ≡ true → v ≢ var
  other_var v d e = differs_not p after v d (subst (λ x. get_or after x 0 ≡ default_of p x) (sym e) (get_or-set_same s var (default_of p var) 0 within))

  kept : (v : ℕ) → differs p after v ≡ true → get_or after v 0 ≡ get_or s v 0
  kept v d = get_or-set_other s var v (default_of p var) 0 (other_var v d)

  differed : (v : ℕ) → differs p after v ≡ true → differs p s v ≡ true
  differed v d = differs_same p after s v (kept v d) d

  noted_still : (m other : ℕ) → IsOnAgenda a m other → IsOnAgenda w'.agenda m other
  noted_still m other noted = moves.notes.keeps m other (let there : IsOnAgenda a' m other = rw made.noted noted in there)

  ready_still : (other : ℕ) → Contains a.ready.items other → Contains w'.agenda.ready.items other
  ready_still other ready = rw moves.notes.ready (let there : Contains a'.ready.items other = rw made.ready (Contains-append_left a.ready.items rules other ready) in there)

  ready_now : (other : ℕ) → IsRuleOn p w.layer other → (rule_at p other).var ≡ var → Contains w'.agenda.ready.items other
  ready_now other on e = rw moves.notes.ready (let there : Contains a'.ready.items other = rw made.ready (Contains-append_right a.ready.items rules other (each other on e)) in there)

  holds_or_noted : (other : ℕ) → IsRuleOn p w.layer other → IsHolding p s other → IsHolding p after other ⊎ IsOnAgenda w'.agenda w.layer other
  holds_or_noted other on hold = elim (moves.crossed w.layer other (omega arith) on) [
    | inl noted ↦ inr noted
    | inr crossed ↦ inl (crossed.0 hold)
  ]

  source_fell : (v : ℕ) → IsOnLayer p w.layer v → differs p after v ≡ true → IsHolding p after (get_or w.sources v 0) ⊎ IsOnAgenda w'.agenda w.layer (get_or w.sources v 0)
  source_fell v on d = elim (falling.sources v on (differed v d)) [
    | inl hold ↦ holds_or_noted (get_or w.sources v 0) ((falling.to.have w.layer).source v on (differed v d)).is hold
    | inr noted ↦ elim (takes.noted w.layer (get_or w.sources v 0) noted) [
      | inl still ↦ inr (noted_still w.layer (get_or w.sources v 0) still)
      | inr e ↦ absurd (other_var v d (sym (subst (λ r. (rule_at p r).var ≡ v) e ((falling.to.have w.layer).source v on (differed v d)).sets)))
    ]
  ]

  fired_fell : (other : ℕ) → IsRuleOn p w.layer other → IsHolding p after other → (differs p after (rule_at p other).var ≡ true) ⊎ IsAwaited w'.agenda w.layer other
  fired_fell other on hold = elim (cases_eq (rule_at p other).var var) [
    | inl e ↦ inr (inr (ready_now other on e))
    | inr ne ↦ elim (moves.crossed w.layer other (omega arith) on) [
      | inl noted ↦ inr (inl noted)
      | inr crossed ↦ elim (falling.fired other on (crossed.1 hold)) [
        | inl d ↦ inl (differs_same p s after (rule_at p other).var (sym (get_or-set_other s var (rule_at p other).var (default_of p var) 0 ne)) d)
        | inr awaited ↦ elim (still_awaited w.layer rule w.agenda a takes other awaited) [
          | inl (inl noted) ↦ inr (inl (noted_still w.layer other noted))
          | inl (inr ready) ↦ inr (inr (ready_still other ready))
          | inr e ↦ absurd (ne (ap (λ r. (rule_at p r).var) e))
        ]
      ]
    ]
  ]

  pub falling_fell : IsFalling p s0 after w'
  falling_fell = rw (same.layer, same.sources) record {
    track = rw (same.layer, same.sources) at (track_moved p w.layer var s after (with_agenda w a') w' (asks_down p w.layer var layered is.on) state
        (track_ready p w.layer s (with_agenda w a) a' rules (track_taken p w.layer rule s w a falling.track takes) all made.ready made.noted) moves (ap length same.sources));
    to = record {
      settled = falling.to.settled;
      same = same_moved p w.layer var (default_of p var) s0 s is.on falling.to.same;
      noted = noted_moved p (w.layer + 1) var s0 s after (with_agenda w a') w' moves (updated_taken p w.layer rule s0 s w a a' is takes made.noted falling.to).noted;
      have = λ m. sources_fall p m s after w.sources kept (falling.to.have m);
      held = λ m le v on d. falling.to.held m le v on (differed v d);
    };
    sources = source_fell;
    fired = fired_fell;
  }

-- where nothing of the layer is noted, the sources of all that differs hold
pub risen_from_fallen : (p : Parts) (s0 s : List ℕ) (w : Work) → IsFalling p s0 s w → AreBehind w.layer w.agenda → IsRising p s0 s w
risen_from_fallen p s0 s w falling behind = grind (arith, get_or, heap_items, entry_for)

-- the variable of a rule gets its default
pub fallen_is : (p : Parts) (s s' : List ℕ) (rule value : ℕ) (change : Change) → change ≡ change_of (rule_at p rule) → value ≡ default_of p change.var → s' ≡ set s change.var value
    → s' ≡ set s (rule_at p rule).var (default_of p (rule_at p rule).var)
fallen_is p s s' rule value change of_rule is_default is_set = is_set ∙ (ap (λ x. set s change.var x) is_default ∙ ap (λ (c : Change). set s c.var (default_of p c.var)) of_rule)

-- less is left in the end: what was noted on the layer was taken off
pub less_in_the_end : (layer rule : ℕ) (a0 a : Agenda) → IsOnAgenda a0 layer rule → AreBehind layer a → (work_left a < work_left a0) ⊎ (a ≡ a0) → work_left a < work_left a0
less_in_the_end layer rule a0 a noted behind h1 = grind (arith, heap_items, entry_for)
