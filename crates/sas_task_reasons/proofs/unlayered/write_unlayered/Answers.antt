use Rattle.sas_task_reasons.proofs.Imports.{◌≡◌, List, [], sym, subst, ◌∙◌, Option, Some, IsSomeAnd, Output, output_of, Line, reasons_text, writes_as, with_reasons, why_refusal}
use Rattle.sas_task_reasons.proofs.TaskAnswers.{refused_why}
use Rattle.sas_task_reasons.proofs.unlayered.write_unlayered.Goals as goal

pub returns : goal.returns
returns g c =
    let p = c.args.task.now in
    let refusal = output_of c.in_ok-refusal.refusal in
    let whole = subst (λ (lines : List Line). why_refusal p c.args.fault ≡ Some (with_reasons (reasons_text p [] lines) refusal)) (sym (c.as_slice.ensures ∙ c.in_ok-reasons.ensures))
    (refused_why p c.args.fault refusal c.in_ok-refusal.ensures) in
    writes_as g.W.Write.contents _ _ c.write_reasons.result _ (λ (output : Option Output). IsSomeAnd output (λ refusal. why_refusal p c.args.fault ≡ Some refusal)) whole c.write_reasons.ensures
