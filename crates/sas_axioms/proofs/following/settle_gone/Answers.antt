-- The layers are settled one by one.
use Rattle.sas_axioms.proofs.Imports.{arith, ◌+◌, ◌≤◌, [], length, get_or, refl, sym, ap, subst, ◌∙◌, heap_items, IsOnLayer, SameOff, basic_off, entry_for, IsFalling}
use Rattle.sas_axioms.proofs.RisingSteps.{falling_begins, between_again, followed_when_none}
use Rattle.sas_axioms.proofs.SetVariables.{adds_none, adds_both, lists_derived}
use Rattle.sas_axioms.proofs.following.settle_gone.Goals as goal
use Rattle.sas_axioms.proofs.following.settle_gone.Given.{Over}
use Rattle.sas_axioms.proofs.following.settle_gone.Goals.{In-Some}

-- the layer at hand isn't below those that are left
at_hand : (g : Over) (c : In-Some g) → c.loop-layer.invariant.between.1 ≤ c.in-Some.layer
at_hand g c = search (arith, heap_items, entry_for)

begins : (g : Over) (c : In-Some g) → IsFalling c.args.indexed.now c.loop-layer.invariant.between.0 c.loop-layer.state
    (record { layer = c.in-Some.layer; counters = c.loop-layer.work.counters; stack = c.loop-layer.work.stack; sources = c.loop-layer.work.sources; agenda = c.loop-layer.work.agenda })
begins g c =
    let between = c.loop-layer.invariant.between in
    falling_begins c.args.indexed.now between.0 c.loop-layer.state between.1 c.in-Some.layer c.loop-layer.work between.2 (at_hand g c) c.in-Some.ensures.some.from

pub fall-requires-clause-falling : goal.fall-requires-clause-falling
fall-requires-clause-falling g c = (c.loop-layer.invariant.between.0, begins g (goal.at.fall-requires-clause-falling g c).In-Some)

pub rise-requires : goal.rise-requires
rise-requires g c =
    let s0 = c.loop-layer.invariant.between.0 in
    (s0, c.in_ok-fall.ensures.rising s0 (begins g (goal.at.rise-requires g c).In-Some))

pub returns-clause-followed : goal.returns-clause-followed
returns-clause-followed g c =
    let b = c.loop-layer.invariant.between in
    followed_when_none c.args.indexed.now b.0 c.loop-layer.state b.1 c.loop-layer.work b.2 c.in_default.ensures.none

pub returns-clause-changed : goal.returns-clause-changed
returns-clause-changed g c = lists_derived c.args.indexed.now c.args.state.now c.loop-layer.state c.loop-layer.changed.items c.loop-layer.invariant.changed

pub loop-layer-preserved : goal.loop-layer-preserved
loop-layer-preserved g c =
    let p = c.args.indexed.now in
    let i = (goal.at.loop-layer-preserved g c).In-Some in
    let inv = c.loop-layer.invariant in
    let s0 = inv.between.0 in
    let from = inv.between.1 in
    let b = inv.between.2 in
    let layer = c.in-Some.layer in
    let off : SameOff p layer c.loop-layer.state c.rise.new.state = λ v not. c.fall.ensures.off v not ∙ c.rise.ensures.off v (subst (λ n. IsOnLayer p n v → ⊥) (sym c.fall.ensures.same.layer) not) in
    record {
      stack = c.rise.ensures.stands.stack ∙ (c.fall.ensures.same.stack ∙ inv.stack);
      one_each = c.rise.ensures.stands.one_each ∙ (c.fall.ensures.same.one_each ∙ inv.one_each);
      sources = c.rise.ensures.stands.sources ∙ (ap length c.fall.ensures.same.sources ∙ inv.sources);
      state = c.rise.ensures.state;
      basic = λ v basic. inv.basic v basic ∙ basic_off p layer c.loop-layer.state c.rise.new.state b.layered off v basic;
      changed = adds_both p c.args.state.now c.loop-layer.state c.rise.new.state [] c.loop-layer.changed.items c.rise.new.changed.items inv.changed
          (adds_both p c.loop-layer.state c.fall.new.state c.rise.new.state c.loop-layer.changed.items c.fall.new.changed.items c.rise.new.changed.items c.in_ok-fall.ensures.changed c.in_ok-rise.ensures.changed);
      between = (
        s0,
        layer + 1,
        between_again p s0 c.loop-layer.state c.rise.new.state from layer c.loop-layer.work c.rise.new.work b (at_hand g i) c.in-Some.ensures.some.from
            (c.rise.ensures.stands.layer ∙ c.fall.ensures.same.layer) off
            (λ v not. c.in_ok-rise.ensures.sources v (subst (λ n. IsOnLayer p n v → ⊥) (sym c.fall.ensures.same.layer) not) ∙ ap (λ xs. get_or xs v 0) c.fall.ensures.same.sources)
            (c.in_ok-rise.ensures.risen s0 (c.in_ok-fall.ensures.rising s0 (begins g i))),
      );
    }

pub returns-in_err-fall-clause-basic : goal.returns-in_err-fall-clause-basic
returns-in_err-fall-clause-basic g c v basic =
    c.loop-layer.invariant.basic v basic ∙ basic_off c.args.indexed.now c.in-Some.layer c.loop-layer.state c.fall.new.state c.loop-layer.invariant.between.2.layered c.fall.ensures.off v basic

pub returns-in_err-rise-clause-basic : goal.returns-in_err-rise-clause-basic
returns-in_err-rise-clause-basic g c v basic =
    let layered = c.loop-layer.invariant.between.2.layered in
    c.loop-layer.invariant.basic v basic ∙ (basic_off c.args.indexed.now c.in-Some.layer c.loop-layer.state c.fall.new.state layered c.fall.ensures.off v basic
    ∙ basic_off c.args.indexed.now c.fall.new.work.layer c.fall.new.state c.rise.new.state layered c.rise.ensures.off v basic)

pub loop-layer-init : goal.loop-layer-init
loop-layer-init g c = record { stack = c.count_gone.ensures.same.stack; one_each = c.count_gone.ensures.same.one_each; sources = ap length c.count_gone.ensures.same.sources; state = c.requires.state; basic = λ v basic. refl; changed = rw c.clear.ensures.items (adds_none _ _ _); between = (c.in_ok-count_gone.ensures.between.0, 0, c.in_ok-count_gone.ensures.between.1) }
