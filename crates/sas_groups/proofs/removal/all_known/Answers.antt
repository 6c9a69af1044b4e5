-- One more condition is known.
use Rattle.sas_groups.proofs.Imports.{Contains, each_more, known_on}
use Rattle.sas_groups.proofs.removal.all_known.Goals as goal

pub loop-condition-preserved : goal.loop-condition-preserved
loop-condition-preserved g c =
    let all = known_on c.args.task.now c.args.premises.now in
    each_more (Contains all) c.args.conditions.now c.loop-condition.condition-index _ c.loop-condition-test.true c.loop-condition.invariant
    (c.is_known.ensures.0 c.if-not-is_known.false)
