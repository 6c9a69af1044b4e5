-- Each detail has its answer.
use Rattle.sas_plan_reasons.proofs.Imports.{◌≡◌, Some, IsSomeAnd, output_of, VerdictAnswer, writes_as, writes_counting}
use Rattle.sas_plan_reasons.proofs.verdicts.answer_named.Goals as goal

pub returns-then-detail-clause-writes : goal.returns-then-detail-clause-writes
returns-then-detail-clause-writes g c = rw c.if-detail.true c.write_trace.ensures.writes

pub returns-in_ok-verdict_answer-clause-writes : goal.returns-in_ok-verdict_answer-clause-writes
returns-in_ok-verdict_answer-clause-writes g c =
    let contents = g.W.Write.contents in
    let named = c.args.named.now in
    let answer = output_of c.in_ok-verdict_answer.field-0 in
    rw (c.if-detail.false, c.if-detail-2.false) (writes_as contents _ _ c.write.result answer (λ output. IsSomeAnd output (VerdictAnswer named.task.now named.plan.now)) c.in_ok-verdict_answer.ensures.answer
    (writes_counting contents _ _ c.write.result (λ output. output ≡ Some answer) c.write.ensures.writes))
