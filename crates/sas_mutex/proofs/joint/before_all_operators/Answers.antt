-- One more verdict.
use Rattle.sas_mutex.proofs.Imports.{◌+◌, List, sym, subst, Fact, IsFirstVerdict}
use Rattle.sas_mutex.proofs.VerdictsSoFar.{FirstUpTo, first_more}
use Rattle.sas_mutex.proofs.joint.before_all_operators.Goals as goal

pub loop-group-preserved : goal.loop-group-preserved
loop-group-preserved g c =
    let p = c.args.layered.now in
    let n = c.loop-group.group in
    subst (FirstUpTo p (n + 1)) (sym c.in_ok-push.ensures.ok) (first_more p n c.loop-group.verdicts c.before_operators.result c.loop-group.invariant
    (subst (λ (facts : List Fact). IsFirstVerdict p facts c.before_operators.result) (rw c.task-task.ensures.task at c.group.ensures) c.before_operators.ensures))
