use Rattle.sas_c.proofs.Imports.{List, ℕ, Bor, ap, Some, ◌∙◌, Vec}
use Rattle.sas_requests.specs.OutBy.{OutBy}
use Rattle.sas_c.proofs.Returned.{reports_ended}
use Rattle.sas_c.proofs.answering.answer_call.Goals as goal

pub returns : goal.returns
returns c =
    let known = λ (s : Bor (List ℕ)). Some s.now in
    let inputs = c.args.inputs in
    let ends = c.answer-ended.ensures.answers.ends.output inputs.task.now inputs.plan.now (λ _. ap known c.new-task.ensures.device, λ _. ap known c.new-plan.ensures.device) in
    reports_ended (OutBy c.args.question.detail c.args.question.request inputs.task.now inputs.plan.now) _ _ (ap (λ (v : Vec ℕ). v.items) c.new-text.ensures.device ∙ c.new.ensures.items) c.answer-ended.result _ _ _ _ ends c.tell_ended.ensures.answers
