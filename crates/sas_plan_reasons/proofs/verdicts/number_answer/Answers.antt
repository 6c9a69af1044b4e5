-- The operators that were chosen are those with the numbers.
use Rattle.sas_plan_reasons.proofs.Imports.{ℕ, List, IfOk-weaker, output_of, start_of}
use Rattle.sas_plan_reasons.proofs.VerdictAnswers.{numbers_answered, number_fault_answered}
use Rattle.sas_plan_reasons.proofs.verdicts.number_answer.Goals as goal
use Rattle.sas_plan_reasons.proofs.verdicts.number_answer.Goals.{in-Ok, in-Err}

pub returns-clause-answer : goal.returns-clause-answer
returns-clause-answer g c =
    let p = c.args.task.now in
    let plan = c.args.plan.now in
    let start : List ℕ = start_of p plan.start.now in
    elim c.match-check.branch [
      | in-Ok w ↦ rw w.result-is (IfOk-weaker w.accept_plan.result _ _ (λ a is. numbers_answered p start plan.operators.now plan.cost (output_of a) _ w.in-Ok.ensures.valid is) w.accept_plan.ensures)
      | in-Err w ↦ rw w.result-is (IfOk-weaker w.answer_number_fault.result _ _ (λ a is. number_fault_answered p start plan.operators.now plan.cost (output_of a) w.in-Err.fault w.in-Err.ensures.fault is) w.answer_number_fault.ensures)
    ]
