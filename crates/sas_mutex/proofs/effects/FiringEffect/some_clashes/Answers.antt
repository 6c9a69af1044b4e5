-- One more fact doesn't clash.
use Rattle.sas_mutex.proofs.Imports.{iff_not, sym, subst, arith, Fact, each_more, iff_no, ClashesAt}
use Rattle.sas_mutex.proofs.effects.FiringEffect.some_clashes.Goals as goal

pub loop-fact-preserved : goal.loop-fact-preserved
loop-fact-preserved g c = each_more (λ (fact : Fact). ClashesAt c.args.self.now c.args.kept.now fact → ⊥) c.args.facts.now c.loop-fact.fact-index _ c.loop-fact-test.true c.loop-fact.invariant
    (iff_not c.clashes.ensures c.if-clashes.false)

pub returns : goal.returns
returns g c = iff_no (λ (n, fact, below, is, clashes). c.loop-fact.invariant n fact (let all = c.loop-fact-test.false in omega arith)
    (subst (ClashesAt c.args.self.now c.args.kept.now) (sym is) clashes))
