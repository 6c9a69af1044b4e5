use Rattle.std.proofs.lemmas.Grind.{common_steps}
use Rattle.sas_task_reasons.proofs.Imports.{arith, subst, sym, Exclusive, Pushes, pushes_then}
use Rattle.sas_task_reasons.proofs.GroupTexts.{text_next, all_groups}
use Rattle.sas_task_reasons.proofs.groups.push_groups.Goals as goal

pub loop-place-preserved : goal.loop-place-preserved
loop-place-preserved g c =
    let next = text_next c.args.task.now c.args.reasons.now c.args.verdicts.now _ Exclusive c.loop-place-test.true in
    subst (Pushes g.W.Write.contents _ _) (sym next) (pushes_then _ _ _ _ _ _ c.loop-place.invariant (rw c.reason_of.ensures at c.push_group.ensures))

pub returns : goal.returns
returns g c = grind (arith, common_steps, all_groups)
