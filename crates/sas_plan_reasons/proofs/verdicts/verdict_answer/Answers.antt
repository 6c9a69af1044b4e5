-- The plan was checked.
use Rattle.sas_plan_reasons.proofs.Imports.{IfOk-weaker, output_of}
use Rattle.sas_plan_reasons.proofs.VerdictAnswers.{valid_answered, fault_answered}
use Rattle.sas_plan_reasons.proofs.verdicts.verdict_answer.Goals as goal
use Rattle.sas_plan_reasons.proofs.verdicts.verdict_answer.Goals.{in-Ok, in-Err}

pub returns-clause-answer : goal.returns-clause-answer
returns-clause-answer g c =
    let named = c.args.named.now in
    let p = named.task.now in
    let plan = named.plan.now in
    elim c.match-check.branch [
      | in-Ok w ↦ rw w.result-is (IfOk-weaker w.accept_plan.result _ _ (λ a is. valid_answered p plan (output_of a) _ w.in-Ok.ensures.valid is) (rw (w.steps.ensures, w.cost.ensures) at w.accept_plan.ensures))
      | in-Err w ↦ rw w.result-is (IfOk-weaker w.answer_fault.result _ _ (λ a is. fault_answered p plan (output_of a) w.in-Err.fault w.in-Err.ensures.fault is) (rw w.cost-in-Err.ensures at w.answer_fault.ensures))
    ]
