-- One more group.
use Rattle.sas_task_reasons.proofs.Imports.{◌≡◌, suc, ◌+◌, [], ◌∷◌, ◌++◌, subst, arith}
use Rattle.sas_task_reasons.proofs.GroupAnswers.{AreReasonsBelow, one_more}
use Rattle.sas_task_reasons.proofs.reasons.group_reasons.Goals as goal

pub loop-group-preserved : goal.loop-group-preserved
loop-group-preserved g c =
    let p = c.args.layered.now in
    let verdicts = c.args.found.now.verdicts in
    let n = c.loop-group.group in
    let next : suc n ≡ n + 1 = omega arith in
    rw c.in_ok-push.ensures.ok (subst (λ end. AreReasonsBelow p verdicts end (c.loop-group.reasons ++ c.reason_of.result ∷ [])) next
    (one_more p verdicts n c.loop-group.reasons c.reason_of.result c.loop-group.invariant (rw c.as_slice-verdicts.ensures at c.reason_of.ensures)))
