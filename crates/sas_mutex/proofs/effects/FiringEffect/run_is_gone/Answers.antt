-- The first fact decides for the whole run, or one more fact can't remain.
use Rattle.sas_mutex.proofs.Imports.{iff_not, subst, arith, IsGoneAt, each_more, iff_yes, iff_no, common_steps, EffectPlace}
use Rattle.sas_mutex.proofs.Existing.{variable_below}
use Rattle.sas_mutex.proofs.FromNotes.{IsFiring}
use Rattle.sas_mutex.proofs.GoneRuns.{settled_are_gone}
use Rattle.sas_mutex.proofs.effects.FiringEffect.run_is_gone.Goals as goal

pub returns-then-is_settled : goal.returns-then-is_settled
returns-then-is_settled g c = iff_yes (settled_are_gone c.args.self.now c.self.inside.index.now
    (subst (λ (f : EffectPlace). IsFiring f c.self.inside.index.now c.self.inside.change) c.self.view_is c.self.invariant) c.args.kept.now c.args.recorded.now c.requires.notes c.args.run.now
    c.requires.exist c.requires.one c.requires.unknown (c.is_settled.ensures c.if-is_settled.true))

pub loop-fact-preserved : goal.loop-fact-preserved
loop-fact-preserved g c = each_more (IsGoneAt c.args.self.now c.args.kept.now) c.args.run.now c.loop-fact.fact-index _ c.loop-fact-test.true c.loop-fact.invariant
    (c.is_gone.ensures.0 c.if-not-is_gone.false)

pub is_settled-requires : goal.is_settled-requires
is_settled-requires g c = grind (arith, common_steps, variable_below)

pub loop-fact-init : goal.loop-fact-init
loop-fact-init g c = λ k d lt. absurd (omega arith)

pub is_gone-requires-clause-fact : goal.is_gone-requires-clause-fact
is_gone-requires-clause-fact g c = c.requires.exist c.loop-fact.fact-index (record { var = 0; value = 0 }) c.loop-fact-test.true

pub returns-then-not-is_gone : goal.returns-then-not-is_gone
returns-then-not-is_gone g c = iff_no (λ all. iff_not c.is_gone.ensures c.if-not-is_gone.true (all c.loop-fact.fact-index _ c.loop-fact-test.true))

pub returns : goal.returns
returns g c = iff_yes (λ k d lt. c.loop-fact.invariant k d (omega (arith, lt, c.loop-fact-test.false)))
