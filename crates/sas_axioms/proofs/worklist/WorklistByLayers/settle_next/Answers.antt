-- The next layer on which a rule holds.
use Rattle.sas_axioms.proofs.Imports.{rules, ℕ, ◌≤◌, ◌<◌, length, sym, subst, inl, inr, arith, cases_eq, cases_lt, default_off, AreGiven, SettlesLayer, IsLayerSpan, AreWaiting, layer_at, IsSettledAt, IsSettled, IsFollowed}
use Rattle.sas_axioms.proofs.Sources.{given_off, given_at_default}
use Rattle.sas_axioms.proofs.Standing.{settled_while_waiting, settled_between, from_on, ready_from, stands_behind}
use Rattle.sas_axioms.proofs.worklist.WorklistByLayers.settle_next.Goals as goal
use Rattle.sas_axioms.proofs.worklist.WorklistByLayers.settle_next.Given.{Over}
use Rattle.sas_axioms.proofs.worklist.WorklistByLayers.settle_next.Goals.{In_ok-ready}

pub returns-in_err-ready-clause-settled : goal.returns-in_err-ready-clause-settled
returns-in_err-ready-clause-settled g c =
    let p = c.args.layered.now in
    let w = c.args.self.now in
    let stands = c.requires.stands in
    let all = w.rules.items in
    let waiting : AreWaiting w.firing.work.counters all w.next (length all) = rw c.as_slice-rules.ensures.value at c.in_err-ready.ensures.none in
    let settled : (m : ℕ) → c.args._from ≤ m → IsSettledAt p m c.args.state.now = λ m le.
    settled_while_waiting p all c.args._from w.next stands.ready.rules stands.stands c.args.state.now w.firing.work.counters stands.ready.firing.counted.layered stands.counts
    (length all) m waiting (λ k d past within e. absurd (omega arith)) le (c.requires.default m le) in
    search rules

pub returns-in_err-ready-clause-follows : goal.returns-in_err-ready-clause-follows
returns-in_err-ready-clause-follows g c =
    let p = c.args.layered.now in
    let s = c.args.state.now in
    let w = c.args.self.now.firing.work in
    let stands = c.requires.stands in
    let follows : IsSettled p s → IsFollowed p s w = λ settled. record {
      layered = stands.ready.firing.counted.layered;
      state = c.requires.state;
      settled = settled;
      counts = stands.counts;
      places = stands.ready.firing.room.sources;
      given = λ layer. elim (cases_lt layer c.args._from) [ inl lt ↦ stands.given layer lt | inr ge ↦ given_at_default p layer s w.sources (c.requires.default layer ge) ];
    } in
    search rules

waiting : (g : Over) (c : In_ok-ready g) → AreWaiting c.args.self.now.firing.work.counters c.args.self.now.rules.items c.args.self.now.next c.in_ok-ready.ready
waiting g c = rw c.as_slice-rules.ensures.value at c.in_ok-ready.ensures.some.2

within : (g : Over) (c : In_ok-ready g) → c.in_ok-ready.ready < length c.args.self.now.rules.items
within g c = rw c.as_slice-rules.ensures.value at c.in_ok-ready.ensures.some.1

left : (g : Over) (c : In_ok-ready g) → c.args._from ≤ layer_at c.args.self.now.rules.items c.in_ok-ready.ready
left g c = search (arith, from_on, rules, within, waiting)

pub settle_layer-self-requires-clause-rules : goal.settle_layer-self-requires-clause-rules
settle_layer-self-requires-clause-rules g c =
    let at = (goal.at.settle_layer-self-requires-clause-rules g c).In_ok-ready in
    let stands = c.requires.stands in
    let w = c.args.self.now in
    rw c.as_slice-rules.ensures.value
    (ready_from c.args.layered.now w.rules.items c.args._from w.next stands.ready.rules stands.stands c.args.state.now w.firing.work.counters stands.ready.firing.counted.layered stands.counts
    c.in_ok-ready.ready c.in_ok-ready.ensures.some.0 (within g at) (waiting g at) (c.requires.default (layer_at w.rules.items c.in_ok-ready.ready) (left g at)))

pub settle_layer-self-requires-clause-default : goal.settle_layer-self-requires-clause-default
settle_layer-self-requires-clause-default g c =
    let at = (goal.at.settle_layer-self-requires-clause-default g c).In_ok-ready in
    rw c.as_slice-rules.ensures.value (c.requires.default (layer_at c.args.self.now.rules.items c.in_ok-ready.ready) (left g at))

pub returns-clause-stands : goal.returns-clause-stands
returns-clause-stands g c =
    let at = (goal.at.returns-clause-stands g c).In_ok-ready in
    let p = c.args.layered.now in
    let w = c.args.self.now in
    let stands = c.requires.stands in
    let layer = layer_at w.rules.items c.in_ok-ready.ready in
    let layered = stands.ready.firing.counted.layered in
    let s = c.args.state.now in
    let s' = c.settle_layer-self.new.state in
    let sources = c.settle_layer-self.new.self.work.sources in
    let settles : SettlesLayer p layer s s' = rw c.as_slice-rules.ensures.value at c.settle_layer-self.ensures.settles in
    let span : IsLayerSpan w.rules.items c.in_ok-ready.ready layer c.settle_layer-self.result = rw c.as_slice-rules.ensures.value at c.settle_layer-self.ensures.end in
    rw c.as_slice-rules.ensures.value record {
      ready = record { derived = stands.ready.derived; rules = stands.ready.rules; firing = c.settle_layer-self.ensures.prepared };
      stands = stands_behind p w.rules.items c.args._from w.next stands.ready.rules stands.stands c.args.state.now w.firing.work.counters stands.ready.firing.counted.layered stands.counts
          c.in_ok-ready.ready c.in_ok-ready.ensures.some.0 (within g at) (waiting g at) c.settle_layer-self.result span;
      given = λ below lt. elim (cases_eq below layer) [
        | inl e ↦ subst (λ n. AreGiven p n s' sources) (sym e) (rw c.as_slice-rules.ensures.value at c.settle_layer-self.ensures.given)
        | inr ne ↦ elim (cases_lt below c.args._from) [
          | inl early ↦ given_off p layer below s s' w.firing.work.sources sources layered settles.off (rw c.as_slice-rules.ensures.value at c.settle_layer-self.ensures.sources) (omega arith) (stands.given below early)
          | inr late ↦ given_at_default p below s' sources (default_off p layer s s' layered settles.off below ne (c.requires.default below late))
        ]
      ];
      counts = c.settle_layer-self.ensures.counts;
    }

pub returns-clause-settles : goal.returns-clause-settles
returns-clause-settles g c =
    let at = (goal.at.returns-clause-settles g c).In_ok-ready in
    let p = c.args.layered.now in
    let w = c.args.self.now in
    let stands = c.requires.stands in
    rw c.as_slice-rules.ensures.value record {
      from_on = left g at;
      skipped = λ below le lt. settled_between p w.rules.items c.args._from w.next stands.ready.rules stands.stands c.args.state.now w.firing.work.counters stands.ready.firing.counted.layered stands.counts
          c.in_ok-ready.ready c.in_ok-ready.ensures.some.0 (within g at) (waiting g at) below le lt (c.requires.default below le);
      settles = rw c.as_slice-rules.ensures.value at c.settle_layer-self.ensures.settles;
    }
