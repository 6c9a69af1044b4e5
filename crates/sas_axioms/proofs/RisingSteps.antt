-- The rules of a layer that hold set their variables, one by one.
use Rattle.sas_axioms.proofs.Imports.{◌≡◌, ◌≢◌, ◌⊎◌, ◌↔◌, ℕ, ◌+◌, ◌<◌, ◌≤◌, true, List, [], length, get_or, set, refl, sym, ◌∙◌, ap, subst, inl, inr, arith, heap_items, cases_eq, cases_lt, get_or-set_same, get_or-set_other, length-set, All-nil, All-contains, Reverse, Parts, rule_at, WellRanged, IsOnLayer, IsLayered, differs, IsSettledAt, SameOff, Fired, fired_there, differs_true, differs_same, Work, Agenda, LayerRule, entry_for, IsOnAgenda, IsAwaited, NoLowerLayer, RemovesFromAgenda, SameWork, CountsChange, IsUpdatedTo, IsBetween, IsFalling, IsRising, HasRisen, IsFollowed, IsRuleOn, IsHolding, HaveSources, SourcesHold, AreGiven, settled_off, no_effect}
use Rattle.sas_axioms.proofs.FallingSteps.{noted_taken, updated_taken, noted_moved, same_moved, still_awaited}
use Rattle.sas_axioms.proofs.Sources.{forced_when_given, sources_same, given_off, given_when_fired, differs_where_holding, settled_when_given}
use Rattle.sas_axioms.proofs.Tracking.{with_agenda, awaited_on, track_taken, asks_down, track_moved, track_set}

-- a rule that is taken off doesn't hold, or its variable differs from its default
pub rising_passed : (p : Parts) (s0 s : List ℕ) (rule : ℕ) (w : Work) (a : Agenda) → IsRising p s0 s w → RemovesFromAgenda w.layer rule w.agenda a
    → (IsHolding p s rule → differs p s (rule_at p rule).var ≡ true) → IsRising p s0 s (with_agenda w a)
rising_passed p s0 s rule w a rising takes done = record {
  track = track_taken p w.layer rule s w a rising.track takes;
  to = updated_taken p w.layer rule s0 s w a a (awaited_on p w.layer rule s w rising.track takes.was) takes refl rising.to;
  hold = rising.hold;
  fired = λ other on hold. elim (rising.fired other on hold) [
    | inl d ↦ inl d
    | inr awaited ↦ elim (still_awaited w.layer rule w.agenda a takes other awaited) [
      | inl still ↦ inr still
      | inr e ↦ inl (subst (λ r. differs p s (rule_at p r).var ≡ true) (sym e) (done (subst (λ r. IsHolding p s r) e hold)))
    ]
  ];
}

-- it holds, and sets its variable
module _ (p : Parts) (s0 s : List ℕ) (rule : ℕ) (w : Work) (a : Agenda) (ranged : WellRanged p) (layered : IsLayered p) (rising : IsRising p s0 s w)
    (takes : RemovesFromAgenda w.layer rule w.agenda a) (holding : IsHolding p s rule) (ne : get_or s (rule_at p rule).var 0 ≢ (rule_at p rule).new) where
  is : IsRuleOn p w.layer rule
  is = awaited_on p w.layer rule s w rising.track takes.was

  given : AreGiven p w.layer s w.sources
  given = record { have = rising.to.have w.layer; hold = rising.hold }

  -- what the rule sets
  pub fires : Fired p w.layer s (rule_at p rule)
  fires = fired_there p w.layer s rule no_effect ranged layered rising.track.state (forced_when_given p w.layer s w.sources layered given) is.exists
      (record { on = is.on; can = is.can; hold = holding; new = ne })

  module _ (w' : Work) (within : (rule_at p rule).var < length s) (place : (rule_at p rule).var < length w.sources) (same : SameWork (with_agenda w a) w')
      (moves : CountsChange p (rule_at p rule).var s (with_agenda w a) (set s (rule_at p rule).var (rule_at p rule).new) w') where
    abbrev var : ℕ
    var = (rule_at p rule).var

    abbrev after : List ℕ
    after = set s (rule_at p rule).var (rule_at p rule).new

    abbrev sources_after : List ℕ
    sources_after = set w.sources (rule_at p rule).var rule

    -- the variables of another layer are others, with the value and the source that they had
    off_layer : (m v : ℕ) → m ≢ w.layer → IsOnLayer p m v → v ≢ var
    off_layer m v not on e = (let a = subst (λ u. IsOnLayer p m u) e on in let b = is.on in let f : m ≡ w.layer = cc in not f)

    value_off : (m v : ℕ) → m ≢ w.layer → IsOnLayer p m v → get_or after v 0 ≡ get_or s v 0
    value_off m v not on = get_or-set_other s var v (rule_at p rule).new 0 (off_layer m v not on)

    source_off : (m v : ℕ) → m ≢ w.layer → IsOnLayer p m v → get_or sources_after v 0 ≡ get_or w.sources v 0
    source_off m v not on = get_or-set_other w.sources var v rule 0 (off_layer m v not on)

    given_now : AreGiven p w.layer after sources_after
    given_now = given_when_fired p w.layer rule s w.sources layered is given holding fires.default within place

    have_now : (m : ℕ) → HaveSources p m after sources_after
    have_now m = elim (cases_eq m w.layer) [
      | inl e ↦ rw e given_now.have
      | inr not ↦ sources_same p m s after w.sources sources_after (λ v on. value_off m v not on) (λ v on. source_off m v not on) (rising.to.have m)
    ]

    held_now : (m : ℕ) → w.layer + 1 ≤ m → SourcesHold p m sources_after after s0
    held_now m le v on d =
        let not : m ≢ w.layer = omega arith in
        rw (source_off m v not on) (rising.to.held m le v on (differs_same p after s v (value_off m v not on) d))

    fired_now : (other : ℕ) → IsRuleOn p w.layer other → IsHolding p after other → (differs p after (rule_at p other).var ≡ true) ⊎ IsAwaited w'.agenda w.layer other
    fired_now other on hold' = elim (cases_eq (rule_at p other).var var) [
      | inl e ↦ inl (rw e (differs_true p after var (λ f. is.can (sym (get_or-set_same s var (rule_at p rule).new 0 within) ∙ f))))
      | inr not ↦ elim (moves.crossed w.layer other (omega arith) on) [
        | inl noted ↦ inr (inl noted)
        | inr crossed ↦ elim (rising.fired other on (crossed.1 hold')) [
          | inl d ↦ inl (differs_same p s after (rule_at p other).var (sym (get_or-set_other s var (rule_at p other).var (rule_at p rule).new 0 not)) d)
          | inr awaited ↦ elim (still_awaited w.layer rule w.agenda a takes other awaited) [
            | inl (inl noted) ↦ inr (inl (moves.notes.keeps w.layer other noted))
            | inl (inr ready) ↦ inr (inr (rw moves.notes.ready ready))
            | inr e ↦ absurd (not (ap (λ r. (rule_at p r).var) e))
          ]
        ]
      ]
    ]

    pub rising_set : IsRising p s0 (set s (rule_at p rule).var (rule_at p rule).new)
        (record { layer = w'.layer; counters = w'.counters; stack = w'.stack; sources = set w'.sources (rule_at p rule).var rule; agenda = w'.agenda })
    rising_set = rw (same.layer, same.sources) record {
      track = rw same.layer at (track_set p w.layer after w' sources_after (length-set w.sources var rule ∙ ap length (sym same.sources))
          (track_moved p w.layer var s after (with_agenda w a) w' (asks_down p w.layer var layered is.on) fires.state (track_taken p w.layer rule s w a rising.track takes) moves (ap length same.sources)));
      to = record {
        settled = rising.to.settled;
        same = same_moved p w.layer var (rule_at p rule).new s0 s is.on rising.to.same;
        noted = noted_moved p (w.layer + 1) var s0 s after (with_agenda w a) w' moves (noted_taken p w.layer rule s0 s w.agenda a is takes rising.to.noted);
        have = have_now;
        held = held_now;
      };
      hold = given_now.hold;
      fired = fired_now;
    }

-- where nothing is left on the layer, it is settled
risen_settled : (p : Parts) (s0 s : List ℕ) (w : Work) → IsLayered p → HasRisen p s0 s w → IsSettledAt p w.layer s
risen_settled p s0 s w layered risen = settled_when_given p w.layer s w.sources layered (record { have = risen.rising.to.have w.layer; hold = risen.rising.hold }) (λ rule is hold.
    elim (risen.rising.fired rule is hold) [
      | inl d ↦ d
      | inr (inl noted) ↦ (let lt : w.layer < w.layer = All-contains (λ (e : Reverse LayerRule). w.layer < e.0.layer) (heap_items w.agenda.noted) (entry_for w.layer rule) risen.behind noted in absurd (omega arith))
      | inr (inr ready) ↦ (let none = rw risen.empty at ready in absurd (omega (arith, none.1)))
    ])

-- ---- from layer to layer

-- the layers of which no rule is noted are given and settled as before
module _ (p : Parts) (s0 s : List ℕ) (from : ℕ) (w : Work) (m : ℕ) (between : IsBetween p s0 from s w) (le : from ≤ m) (none : (rule : ℕ) → IsOnAgenda w.agenda m rule → ⊥) where
  same_holding : (rule : ℕ) → IsRuleOn p m rule → IsHolding p s0 rule ↔ IsHolding p s rule
  same_holding rule is = elim (between.to.noted m rule le is) [ inl noted ↦ absurd (none rule noted) | inr same ↦ same ]

  pub given_between : AreGiven p m s w.sources
  given_between = record {
    have = between.to.have m;
    hold = λ v on d. (same_holding (get_or w.sources v 0) ((between.to.have m).source v on d).is).0 (between.to.held m le v on d);
  }

  pub settled_between : IsSettledAt p m s
  settled_between = settled_when_given p m s w.sources between.layered given_between (λ rule is hold.
      (let d = differs_where_holding p m rule s0 (between.to.settled m) is ((same_holding rule is).1 hold) in
      differs_same p s0 s (rule_at p rule).var (between.to.same m (rule_at p rule).var le is.on) d))

-- the lowest layer of which a rule is noted is at hand
pub falling_begins : (p : Parts) (s0 s : List ℕ) (from layer : ℕ) (w : Work) → IsBetween p s0 from s w → from ≤ layer → NoLowerLayer layer w.agenda
    → IsFalling p s0 s (record { layer = layer; counters = w.counters; stack = w.stack; sources = w.sources; agenda = w.agenda })
falling_begins p s0 s from layer w between le lowest = record {
  track = record {
    state = between.track.state;
    counts = between.track.counts;
    places = between.track.places;
    ordered = between.track.ordered;
    noted = between.track.noted;
    from = lowest;
    ready = rw between.empty (All-nil (λ (r : ℕ). IsRuleOn p layer r));
  };
  to = record {
    settled = between.to.settled;
    same = λ m v above on. between.to.same m v (omega arith) on;
    noted = λ m other above on. between.to.noted m other (omega arith) on;
    have = between.to.have;
    held = λ m above. between.to.held m (omega arith);
  };
  sources = λ v on d. elim (between.to.noted layer (get_or w.sources v 0) le ((between.to.have layer).source v on d).is) [
    | inl noted ↦ inr noted
    | inr same ↦ inl (same.0 (between.to.held layer le v on d))
  ];
  fired = λ other on hold. elim (between.to.noted layer other le on) [
    | inl noted ↦ inr (inl noted)
    | inr same ↦ inl (differs_now other on (differs_where_holding p layer other s0 (between.to.settled layer) on (same.1 hold)))
  ];
}
  where
    differs_now : (other : ℕ) → IsRuleOn p layer other → differs p s0 (rule_at p other).var ≡ true → differs p s (rule_at p other).var ≡ true
    differs_now other on d = differs_same p s0 s (rule_at p other).var (between.to.same layer (rule_at p other).var le on.on) d

-- the layer at hand is settled, and the next ones are at hand
module _ (p : Parts) (s0 s s' : List ℕ) (from layer : ℕ) (w w' : Work) (between : IsBetween p s0 from s w) (le : from ≤ layer) (lowest : NoLowerLayer layer w.agenda)
    (is : w'.layer ≡ layer) (off : SameOff p layer s s') (same_sources : (v : ℕ) → (IsOnLayer p layer v → ⊥) → get_or w'.sources v 0 ≡ get_or w.sources v 0) (risen : HasRisen p s0 s' w') where
  not_noted : (m : ℕ) → m < layer → (rule : ℕ) → IsOnAgenda w.agenda m rule → ⊥
  not_noted m lt rule noted = grind (arith, heap_items, entry_for)

  settled_before : (m : ℕ) → m < layer → IsSettledAt p m s
  settled_before m lt = elim (cases_lt m from) [
    | inl early ↦ between.below m early
    | inr late ↦ settled_between p s0 s from w m between late (not_noted m lt)
  ]

  given_before : (m : ℕ) → m < layer → AreGiven p m s w.sources
  given_before m lt = elim (cases_lt m from) [
    | inl early ↦ record { have = between.to.have m; hold = between.hold m early }
    | inr late ↦ given_between p s0 s from w m between late (not_noted m lt)
  ]

  below : (m : ℕ) → m < layer + 1 → IsSettledAt p m s'
  below m lt = elim (cases_eq m layer) [
    | inl e ↦ subst (λ n. IsSettledAt p n s') (is ∙ sym e) (risen_settled p s0 s' w' between.layered risen)
    | inr ne ↦ settled_off p layer s s' between.layered off m (omega arith) (settled_before m (omega arith))
  ]

  hold : (m : ℕ) → m < layer + 1 → SourcesHold p m w'.sources s' s'
  hold m lt = elim (cases_eq m layer) [
    | inl e ↦ subst (λ n. SourcesHold p n w'.sources s' s') (is ∙ sym e) risen.rising.hold
    | inr ne ↦ (given_off p layer m s s' w.sources w'.sources between.layered off same_sources (omega arith) (given_before m (omega arith))).hold
  ]

  pub between_again : IsBetween p s0 (layer + 1) s' w'
  between_again = record {
    layered = between.layered;
    track = record {
      state = risen.rising.track.state;
      counts = risen.rising.track.counts;
      places = risen.rising.track.places;
      ordered = risen.rising.track.ordered;
      noted = risen.rising.track.noted;
      from = λ k d lt. (let above = risen.behind k d lt in omega (arith, is));
      ready = rw risen.empty (All-nil (λ (r : ℕ). IsRuleOn p (layer + 1) r));
    };
    to = subst (λ n. IsUpdatedTo p (n + 1) s0 s' w') is risen.rising.to;
    below = below;
    hold = hold;
    empty = risen.empty;
  }

-- where no rule is noted, all layers are settled
pub followed_when_none : (p : Parts) (s0 s : List ℕ) (from : ℕ) (w : Work) → IsBetween p s0 from s w → heap_items w.agenda.noted ≡ [] → IsFollowed p s w
followed_when_none p s0 s from w between empty = record {
  layered = between.layered;
  state = between.track.state;
  settled = λ m. elim (cases_lt m from) [
    | inl early ↦ between.below m early
    | inr late ↦ settled_between p s0 s from w m between late (none m)
  ];
  counts = between.track.counts;
  places = between.track.places;
  given = λ m. elim (cases_lt m from) [
    | inl early ↦ record { have = between.to.have m; hold = between.hold m early }
    | inr late ↦ given_between p s0 s from w m between late (none m)
  ];
}
  where
    none : (m rule : ℕ) → IsOnAgenda w.agenda m rule → ⊥
    none m rule noted = let there = rw empty at noted in absurd (omega (arith, there.1))
