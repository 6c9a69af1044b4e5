-- One more rule without open conditions has fired.
use Rattle.sas_axioms.proofs.Imports.{◌≡◌, ◌<◌, List, ℕ, length, get_or, sym, ap, ◌∙◌, arith, get_or_default, LayerRule}
use Rattle.sas_axioms.proofs.Counters.{goes_on_still}
use Rattle.sas_axioms.proofs.Standing.{firing_begins, one_more, layer_settled, layer_span}
use Rattle.sas_axioms.proofs.firing.fire_ready.Goals as goal
use Rattle.sas_axioms.proofs.firing.fire_ready.Given.{Over}
use Rattle.sas_axioms.proofs.firing.fire_ready.Goals.{then-as_slice-rule-eq0, else-as_slice-rule-eq0, Else-rules-next}

abbrev no_entry : LayerRule
no_entry = record { layer = 0; rule = 0 }

pub loop-next-init : goal.loop-next-init
loop-next-init g c = firing_begins c.args.indexed.now c.args.rules.now c.args.start c.args.state.now c.args.work.now c.requires.rules c.requires.at_rest

pub loop-next-preserved : goal.loop-next-preserved
loop-next-preserved g c =
    let p = c.args.indexed.now in
    let rules = c.args.rules.now in
    let s = c.loop-next.state in
    let work = c.loop-next.work in
    let inv = c.loop-next.invariant in
    let more = one_more p rules c.args.start c.loop-next.next c.args.state.now c.args.work.now s work inv c.loop-next-test.true (c.if-rules-next.true ∙ inv.goes_on.layer) in
    elim c.if-as_slice-rule-eq0.branch [
      | then-as_slice-rule-eq0 w ↦ rw (w.work-is, w.state-is) (more w.fire_on.new.state w.fire_on.new.work w.fire_on.ensures.goes_on w.fire_on.ensures.at_rest (λ none. w.fire_on.ensures.fired))
      | else-as_slice-rule-eq0 w ↦ rw (w.work-is, w.state-is) (more s work (goes_on_still p s work) inv.at_rest (λ none.
          absurd (w.if-as_slice-rule-eq0.false (ap (λ (xs : List ℕ). get_or xs (get_or rules c.loop-next.next no_entry).rule 0) c.as_slice.ensures ∙ none))))
    ]

not_last : (g : Over) (c : Else-rules-next g) → (d : LayerRule) → c.loop-next.next < length c.args.rules.now → (get_or c.args.rules.now c.loop-next.next d).layer ≡ c.args.work.now.layer → ⊥
not_last g c d lt same = c.if-rules-next.false (ap (λ (r : LayerRule). r.layer) (get_or_default c.args.rules.now c.loop-next.next no_entry d lt) ∙ same ∙ sym c.loop-next.invariant.goes_on.layer)

pub returns-else-rules-next-clause-settles : goal.returns-else-rules-next-clause-settles
returns-else-rules-next-clause-settles g c =
    layer_settled _ c.args.rules.now c.args.start c.loop-next.next _ c.args.work.now _ _ c.loop-next.invariant c.requires.rules c.requires.layer (not_last g c)

pub returns-else-rules-next-clause-end : goal.returns-else-rules-next-clause-end
returns-else-rules-next-clause-end g c =
    layer_span _ c.args.rules.now c.args.start c.loop-next.next _ c.args.work.now _ _ c.loop-next.invariant c.requires.rules c.requires.layer (not_last g c)

pub returns-after-loop-next-clause-settles : goal.returns-after-loop-next-clause-settles
returns-after-loop-next-clause-settles g c =
    let past = c.loop-next-test.false in
    layer_settled _ c.args.rules.now c.args.start c.loop-next.next _ c.args.work.now _ _ c.loop-next.invariant c.requires.rules c.requires.layer (λ d lt same. absurd (omega arith))

pub returns-after-loop-next-clause-end : goal.returns-after-loop-next-clause-end
returns-after-loop-next-clause-end g c = search (arith, layer_span)
