-- Where a layer of a worklist begins and ends, and which layers before it are settled.
use Rattle.sas_axioms.proofs.Imports.{◌≡◌, ◌≢◌, ◌⊎◌, ℕ, ◌+◌, ◌<◌, ◌≤◌, List, length, get_or, get_or_default, sym, ◌∙◌, ap, inl, inr, arith, cases_lt, Parts, LayerRule, rule_at, IsLayered, IsSettledAt, AtDefault, forced_at_default, AreCounted, IsHolding, IsRuleOn, AreFirstRules, AreWaiting, IsLayerSpan, AreReadyFrom, StandsFrom, SettlesLayer, layer_at, LayerBeginsAt, Work, IsAtRest, WorkGoesOn, cases_eq, differs_true}
use Rattle.sas_axioms.proofs.Counters.{all_hold_when_none_open, none_open_when_all_hold, goes_on_still, goes_on_more, settled_when_empty}
use Rattle.sas_axioms.proofs.Sources.{late_waits, settled_when_set}

-- the rules of the layer from one index up to another that have no open conditions have fired
pub record FiringTo (p : Parts) (rules : List LayerRule) (start next : ℕ) (s0 : List ℕ) (w0 : Work) (s : List ℕ) (w : Work) : Type 0 where
  pub goes_on : WorkGoesOn p s0 w0 s w
  pub at_rest : IsAtRest p s w
  pub from_start : start ≤ next
  pub within : next ≤ length rules
  pub on : (j : ℕ) (d : LayerRule) → start ≤ j → j < next → (get_or rules j d).layer ≡ w0.layer
  pub each : (rule : ℕ) → IsRuleOn p w0.layer rule → get_or w.counters rule 0 ≡ 0 → (get_or s (rule_at p rule).var 0 ≡ (rule_at p rule).new) ⊎ StandsFrom rules next w0.layer rule

-- none has
pub firing_begins : (p : Parts) (rules : List LayerRule) (start : ℕ) (s : List ℕ) (w : Work) → AreReadyFrom p start w.layer w.counters rules → IsAtRest p s w → FiringTo p rules start start s w s w
firing_begins p rules start s w are at_rest = grind (arith, goes_on_still)

module _ (p : Parts) (rules : List LayerRule) (start i : ℕ) (s0 : List ℕ) (w0 : Work) (s : List ℕ) (w : Work) (to : FiringTo p rules start i s0 w0 s w) where
  -- the next rule of the layer has open conditions or has fired, with those that hold because of it
  pub one_more : i < length rules → layer_at rules i ≡ w0.layer → (s' : List ℕ) (w' : Work) → WorkGoesOn p s w s' w' → IsAtRest p s' w'
      → (get_or w'.counters (get_or rules i (record { layer = 0; rule = 0 })).rule 0 ≡ 0 → get_or s' (rule_at p (get_or rules i (record { layer = 0; rule = 0 })).rule).var 0 ≡ (rule_at p (get_or rules i (record { layer = 0; rule = 0 })).rule).new)
      → FiringTo p rules start (i + 1) s0 w0 s' w'
  one_more lt on_layer s' w' more at_rest here = grind (arith, goes_on_more, cases_eq, rule_at, differs_true, get_or, get_or_default)

  -- where the rules of the layer end, it is settled
  module _ (are : AreReadyFrom p start w0.layer w0.counters rules) (begins : w0.layer ≡ layer_at rules start) (last : (d : LayerRule) → i < length rules → (get_or rules i d).layer ≡ w0.layer → ⊥) where
    begins_on : (d : LayerRule) → (get_or rules start d).layer ≡ w0.layer
    begins_on d = sym (begins ∙ ap (λ (r : LayerRule). r.layer) (get_or_default rules start (record { layer = 0; rule = 0 }) d are.within))

    pub layer_settled : SettlesLayer p w0.layer s0 s
    layer_settled = record {
      state = to.at_rest.at_work.firing.running.state;
      off = to.goes_on.off;
      settled = rw (sym to.goes_on.layer) (settled_when_empty p w.layer s w.counters to.at_rest.at_work.firing.running to.at_rest.at_work.counts (λ rule on none.
          elim (to.each rule (rw (sym to.goes_on.layer) on) none) [
            | inl e ↦ e
            | inr stands ↦ (let d : LayerRule = record { layer = w0.layer; rule = rule } in
                let its : (get_or rules stands.at d).layer ≡ w0.layer = ap (λ (r : LayerRule). r.layer) stands.is in
                let low = are.ascending start i d to.from_start (omega (arith, stands.from_start, stands.within)) in
                let high = are.ascending i stands.at d stands.from_start stands.within in
                let begin = begins_on d in
                absurd (last d (omega (arith, stands.from_start, stands.within)) (omega arith)))
          ]));
    }

    pub layer_span : IsLayerSpan rules start w0.layer i
    layer_span = grind (arith, cases_eq, get_or, begins_on)

module _ (p : Parts) (rules : List LayerRule) (from place : ℕ) (rules_are : AreFirstRules p rules) (stands : LayerBeginsAt rules from place)
    (s counters : List ℕ) (layered : IsLayered p) (counts : AreCounted p s counters) where
  -- a rule that holds, on a layer that is left, is among the rules from the place on
  there : (layer rule : ℕ) → from ≤ layer → AtDefault p layer s → IsRuleOn p layer rule → IsHolding p s rule → StandsFrom rules place layer rule
  there layer rule le default is hold = elim (rules_are.each layer rule is) [
    | inr late ↦ absurd (late_waits p layer rule s layered is late default hold)
    | inl found ↦ record {
      at = found.0;
      from_start = elim (cases_lt found.0 place) [
        | inr behind ↦ behind
        | inl before ↦ (let lt = stands.before found.0 (record { layer = layer; rule = rule }) before in
            let its = ap (λ (r : LayerRule). r.layer) found.2 in absurd (omega arith))
      ];
      within = found.1;
      is = found.2;
    }
  ]

  -- where the rules that are left wait up to an index, and none behind it is on the layer, the layer is settled
  pub settled_while_waiting : (end layer : ℕ) → AreWaiting counters rules place end → ((k : ℕ) (d : LayerRule) → end ≤ k → k < length rules → (get_or rules k d).layer ≢ layer)
      → from ≤ layer → AtDefault p layer s → IsSettledAt p layer s
  settled_while_waiting end layer waiting none le default = settled_when_set p layer s (forced_at_default p layer s default) (λ k is hold.
      let w = there layer k le default is hold in
      let d : LayerRule = record { layer = layer; rule = k } in
      elim (cases_lt w.at end) [
        | inr ge ↦ absurd (none w.at d ge w.within (ap (λ (r : LayerRule). r.layer) w.is))
        | inl lt ↦ (let some = waiting w.at d w.from_start lt in
            let same : (get_or rules w.at d).rule ≡ k = ap (λ (r : LayerRule). r.rule) w.is in
            let closed : get_or counters k 0 ≡ 0 = counts.exact layer k is ∙ none_open_when_all_hold (λ v. get_or s v 0) (rule_at p k).conditions hold in
            let closed' = ap (λ n. get_or counters n 0) same in
            absurd (omega arith))
      ])

  -- the first rule that doesn't wait begins its layer
  module _ (ready : ℕ) (ge : place ≤ ready) (within : ready < length rules) (waiting : AreWaiting counters rules place ready) where
    first : (d : LayerRule) → layer_at rules ready ≡ (get_or rules ready d).layer
    first d = ap (λ (r : LayerRule). r.layer) (get_or_default rules ready (record { layer = 0; rule = 0 }) d within)

    -- its layer is left
    pub from_on : from ≤ layer_at rules ready
    from_on = stands.behind ready (record { layer = 0; rule = 0 }) ge within

    -- the rules behind it are on no lower layer
    not_lower : (k : ℕ) (d : LayerRule) → ready ≤ k → k < length rules → layer_at rules ready ≤ (get_or rules k d).layer
    not_lower k d le lt = let up = rules_are.ascending ready k d le lt in let e = first d in omega arith

    -- those between are settled
    pub settled_between : (below : ℕ) → from ≤ below → below < layer_at rules ready → AtDefault p below s → IsSettledAt p below s
    settled_between below le lt default = settled_while_waiting ready below waiting (λ k d past inside e. let not = not_lower k d past inside in absurd (omega arith)) le default

    -- from there on are the rules of the layer that don't wait
    pub ready_from : AtDefault p (layer_at rules ready) s → AreReadyFrom p ready (layer_at rules ready) counters rules
    ready_from default = record {
      within = within;
      only = rules_are.only;
      each = λ rule is none.
          (let layer = layer_at rules ready in
          let w = there layer rule from_on default is (all_hold_when_none_open (λ v. get_or s v 0) (rule_at p rule).conditions (sym (counts.exact layer rule is) ∙ none)) in
          let d : LayerRule = record { layer = layer; rule = rule } in
          let same : (get_or rules w.at d).rule ≡ rule = ap (λ (r : LayerRule). r.rule) w.is in
          let low : ready ≤ w.at = elim (cases_lt w.at ready) [
            | inr le ↦ le
            | inl less ↦ (let some = waiting w.at d w.from_start less in let closed = ap (λ n. get_or counters n 0) same in absurd (omega arith))
          ] in
          record { at = w.at; from_start = low; within = w.within; is = w.is });
      ascending = rules_are.ascending;
    }

    -- behind the layer's rules the next layers are left
    pub stands_behind : (end : ℕ) → IsLayerSpan rules ready (layer_at rules ready) end → LayerBeginsAt rules (layer_at rules ready + 1) end
    stands_behind end span = record {
      within = span.within;
      before = λ k d lt. elim (cases_lt k ready) [
        | inl early ↦ (let up = rules_are.ascending k ready d (omega arith) within in let e = first d in omega arith)
        | inr late ↦ (let e = span.on k d late lt in omega arith)
      ];
      behind = λ k d le lt. above k d le lt;
    }
      where
        above : (k : ℕ) (d : LayerRule) → end ≤ k → k < length rules → layer_at rules ready + 1 ≤ (get_or rules k d).layer
        above k d le lt =
            let some = span.some in
            let not = not_lower end d (omega arith) (omega arith) in
            let other : (get_or rules end d).layer ≢ layer_at rules ready = span.last d (omega arith) in
            let up = rules_are.ascending end k d le lt in omega arith
