use Rattle.sas_axioms.proofs.Imports.{◌≡◌, ◌≤◌, ◌<◌, ◌+◌, ◌^◌, ◌∙◌, ℕ, List, inl, inr, sym, subst, arith, cases_eq, cases_lt, Parts, IsSettled, IsSettledAt, settled_off, basic_off, default_off}
use Rattle.sas_axioms.proofs.by_layers.settle_by_layers.Goals as goal

pub loop-layer-preserved : goal.loop-layer-preserved
loop-layer-preserved g c =
    let p = c.args.layered.now in
    let layer = c.in-Some.layer in
    let s = c.loop-layer.state in
    let s' = c.settle_next.new.state in
    let inv = c.loop-layer.invariant in
    let layered = c.task.ensures.layered in
    let next = c.in-Some.ensures.settles in
    let stands = c.in-Some.ensures.stands in
    let off = next.settles.off in
    let is : c.from-from.result ≡ layer = c.from-from.ensures in
    let bound : layer + 1 ≤ 2 ^ 32 = omega arith in
    rw is record {
      stands = stands;
      state = next.settles.state;
      basic = λ v b. inv.basic v b ∙ basic_off p layer s s' layered off v b;
      below = λ m lt. elim (cases_eq m layer) [
        | inl e ↦ subst (λ n. IsSettledAt p n s') (sym e) next.settles.settled
        | inr ne ↦ settled_off p layer s s' layered off m (omega arith) (elim (cases_lt m c.loop-layer.from) [ inl lt' ↦ inv.below m lt' | inr ge ↦ next.skipped m ge (omega arith) ])
      ];
      above = λ m le. default_off p layer s s' layered off m (omega arith) (inv.above m (let k = next.from_on in omega arith));
      bound = bound;
    }

-- where the layers that are left are settled, all is settled
in_the_end : (p : Parts) (from : ℕ) (s : List ℕ) → ((m : ℕ) → m < from → IsSettledAt p m s) → ((m : ℕ) → from ≤ m → IsSettledAt p m s) → IsSettled p s
in_the_end p from s below above m = elim (cases_lt m from) [ inl lt ↦ below m lt | inr ge ↦ above m ge ]

pub returns-clause-settles : goal.returns-clause-settles
returns-clause-settles g c =
    let inv = c.loop-layer.invariant in
    let same = c.in_default.ensures.same in
    rw same record {
      state = inv.state;
      basic = inv.basic;
      settled = in_the_end c.args.layered.now c.loop-layer.from c.loop-layer.state inv.below (rw same at c.in_default.ensures.settled);
    }

pub returns-clause-follows : goal.returns-clause-follows
returns-clause-follows g c =
    let inv = c.loop-layer.invariant in
    let same = c.in_default.ensures.same in
    c.in_default.ensures.follows (rw same (in_the_end c.args.layered.now c.loop-layer.from c.loop-layer.state inv.below (rw same at c.in_default.ensures.settled)))
