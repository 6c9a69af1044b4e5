-- One more fact doesn't remain.
use Rattle.sas_groups.proofs.Imports.{operator_at, effect_at, each_more, Alone, IsGone}
use Rattle.sas_groups.proofs.keeping.removes_all.Goals as goal

pub loop-fact-preserved : goal.loop-fact-preserved
loop-fact-preserved g c =
    let o = operator_at c.args.task.now c.args.operator in
    each_more (IsGone (Alone c.args.group.now) o (effect_at o c.args.effect)) c.args.group.now c.loop-fact.fact-index _ c.loop-fact-test.true c.loop-fact.invariant
    (c.is_gone.ensures.0 c.if-not-is_gone.false)
