-- The rules are removed one by one: each sets its variable, or needs not.
use Rattle.sas_axioms.proofs.Imports.{◌≡◌, ℕ, ◌<◌, true, List, length, get_or, set, refl, sym, ap, subst, ◌∙◌, arith, Change, rule_at, IsOnLayer, on_layer_within, length-set, get_or-set_other, differs, differs_true, IsRising, IsRuleOn, IsHolding}
use Rattle.sas_axioms.proofs.RisingSteps.{rising_passed, rising_set, fires}
use Rattle.sas_axioms.proofs.Tracking.{awaited_on, holding_when_zero, zero_when_holding, off_step, room_more}
use Rattle.sas_axioms.proofs.SetVariables.{adds_one}
use Rattle.sas_axioms.proofs.following.rise.Goals as goal
use Rattle.sas_axioms.proofs.following.rise.Given.{Over}
use Rattle.sas_axioms.proofs.following.rise.Goals.{In-Some}

pub next-requires : goal.next-requires
next-requires g c = let track = (c.loop-rule.invariant.rising c.requires.0 c.requires.1).track in record { ordered = track.ordered; lowest = track.from }

-- what held before
some : (g : Over) (c : In-Some g) → IsRising c.args.indexed.now c.requires.0 c.loop-rule.state c.loop-rule.work
some g c = c.loop-rule.invariant.rising c.requires.0 c.requires.1

on : (g : Over) (c : In-Some g) → IsRuleOn c.args.indexed.now c.loop-rule.work.layer c.in-Some.rule
on g c = awaited_on c.args.indexed.now c.loop-rule.work.layer c.in-Some.rule c.loop-rule.state c.loop-rule.work (some g c).track c.in-Some.ensures.some.was

within : (g : Over) (c : In-Some g) → (rule_at c.args.indexed.now c.in-Some.rule).var < length c.args.indexed.now.variables
within g c = on_layer_within c.args.indexed.now c.loop-rule.work.layer (rule_at c.args.indexed.now c.in-Some.rule).var (on g c).on

pub has_to_set-requires : goal.has_to_set-requires
has_to_set-requires g c = rw c.indexed.view_is record { rule = (c.loop-rule.work.layer, on g c); state = c.loop-rule.invariant.state; counters = (some g c).track.counts.one_each }

pub rule_change-change-requires : goal.rule_change-change-requires
rule_change-change-requires g c = rw c.indexed.view_is (on g (goal.at.rule_change-change-requires g c).In-Some).exists

pub set_to-requires : goal.set_to-requires
set_to-requires g c =
    let read = rw c.indexed.view_is at c.rule_change-change.ensures in
    record {
      counts = (some g (goal.at.set_to-requires g c).In-Some).track.counts;
      ordered = c.in-Some.ensures.some.ordered;
      exists = rw (ap (λ (x : Change). x.var) read) (within g (goal.at.set_to-requires g c).In-Some);
      other = rw read ((rw c.indexed.view_is at c.has_to_set.ensures).other c.if-has_to_set.true);
    }

-- the rule holds
holds : (g : Over) (i : In-Some g) → get_or i.loop-rule.work.counters i.in-Some.rule 0 ≡ 0 → IsHolding i.args.indexed.now i.loop-rule.state i.in-Some.rule
holds g i zero = holding_when_zero i.args.indexed.now i.loop-rule.work.layer i.in-Some.rule i.loop-rule.state i.loop-rule.work.counters (some g i).track.counts (on g i) zero

pub set-requires : goal.set-requires
set-requires g c =
    let i = (goal.at.set-requires g c).In-Some in
    rw (ap (λ (x : Change). x.var) (rw c.indexed.view_is at c.rule_change-change.ensures)) (omega (arith, within g i, (some g i).track.places, ap length c.set_to.ensures.same.sources))

pub loop-rule-preserved-then-has_to_set : goal.loop-rule-preserved-then-has_to_set
loop-rule-preserved-then-has_to_set g c =
    let p = c.args.indexed.now in
    let i = (goal.at.loop-rule-preserved-then-has_to_set g c).In-Some in
    let inv = c.loop-rule.invariant in
    let s = c.loop-rule.state in
    let rule = c.in-Some.rule in
    let work = c.loop-rule.work in
    let b = some g i in
    let is = on g i in
    let takes = c.in-Some.ensures.some in
    let hold = holds g i ((rw c.indexed.view_is at c.has_to_set.ensures).holds c.if-has_to_set.true) in
    let ne = (rw c.indexed.view_is at c.has_to_set.ensures).other c.if-has_to_set.true in
    let e = (rw c.indexed.view_is at c.rule_change-change.ensures) in
    let state_is : c.set_to.new.state ≡ set s (rule_at p rule).var (rule_at p rule).new = c.in_ok-set_to.ensures.state ∙ ap (λ (x : Change). set s x.var x.new) e in
    let sources_is : c.set.new.self ≡ set c.set_to.new.work.sources (rule_at p rule).var rule = c.set.ensures ∙ ap (λ (x : Change). set c.set_to.new.work.sources x.var rule) e in
    let same = c.set_to.ensures.same in
    let moves = rw (ap (λ (x : Change). x.var) e, state_is) at c.in_ok-set_to.ensures.moves in
    rw (state_is, sources_is) record {
      room = room_more c.args.work.now work _ inv.room (record { layer = same.layer; stack = same.stack; one_each = same.one_each; sources = length-set c.set_to.new.work.sources (rule_at p rule).var rule ∙ ap length same.sources });
      sources = λ v off. get_or-set_other c.set_to.new.work.sources (rule_at p rule).var v rule 0 (λ f. off (subst (λ n. IsOnLayer p n v) inv.room.layer (subst (λ u. IsOnLayer p work.layer u) (sym f) is.on)))
          ∙ (ap (λ (xs : List ℕ). get_or xs v 0) same.sources ∙ inv.sources v off);
      state = (fires p c.requires.0 s rule work _ (rw c.indexed.view_is at c.indexed.invariant).ranged (rw c.indexed.view_is at c.indexed.invariant).layered b takes hold ne).state;
      off = off_step p c.args.work.now.layer work.layer c.args.state.now s (set s (rule_at p rule).var (rule_at p rule).new) (rule_at p rule).var (rule_at p rule).new inv.room.layer inv.off is.on refl;
      rising = λ s0 r. rising_set p s0 s rule work _ (rw c.indexed.view_is at c.indexed.invariant).ranged (rw c.indexed.view_is at c.indexed.invariant).layered (inv.rising s0 r) takes hold ne c.set_to.new.work
          (omega (arith, within g i, b.track.state.one_each)) (omega (arith, within g i, b.track.places)) same moves;
      changed = rw (c.in_ok-set_to.ensures.changed, ap (λ (x : Change). x.var) e)
          (adds_one p c.args.state.now s c.args.changed.now.items c.loop-rule.changed.items (rule_at p rule).var (rule_at p rule).new (within g i) inv.changed);
      left = let a = inv.left in let d = takes.left in let f = moves.left in omega arith;
    }

pub loop-rule-preserved : goal.loop-rule-preserved
loop-rule-preserved g c =
    let p = c.args.indexed.now in
    let i = (goal.at.loop-rule-preserved g c).In-Some in
    let inv = c.loop-rule.invariant in
    let s = c.loop-rule.state in
    let rule = c.in-Some.rule in
    let work = c.loop-rule.work in
    let is = on g i in
    let done : IsHolding p s rule → differs p s (rule_at p rule).var ≡ true = λ hold. differs_true p s (rule_at p rule).var (λ e.
    is.can (sym ((rw c.indexed.view_is at c.has_to_set.ensures).no c.if-has_to_set.false (zero_when_holding p work.layer rule s work.counters (some g i).track.counts is hold)) ∙ e)) in
    record {
      room = record { layer = inv.room.layer; stack = inv.room.stack; one_each = inv.room.one_each; sources = inv.room.sources };
      sources = inv.sources;
      state = inv.state;
      off = inv.off;
      rising = λ s0 r. rising_passed p s0 s rule work _ (inv.rising s0 r) c.in-Some.ensures.some done;
      changed = inv.changed;
      left = let a = inv.left in let d = c.in-Some.ensures.some.left in omega arith;
    }

pub returns-clause-risen : goal.returns-clause-risen
returns-clause-risen g c s rising =
    let same = c.in_default.ensures.same in
    rw same record { rising = c.loop-rule.invariant.rising s rising; behind = rw same at c.in_default.ensures.none; empty = rw same at c.in_default.ensures.empty }
