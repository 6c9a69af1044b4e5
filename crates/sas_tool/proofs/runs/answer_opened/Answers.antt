use Rattle.std.proofs.Common.{subst₂}
use Rattle.std.proofs.lemmas.Result.{IfOk-weaker}
use Rattle.sas_tool.specs.Files.{left_until_end}
use Rattle.sas_tool.specs.Runs.{IsAnswered}
use Rattle.sas_tool.proofs.runs.answer_opened.Goals as goal

pub returns : goal.returns
returns g c =
    let answered = c.answer-result.ensures in
    subst₂ (λ x y. IsAnswered c.args.question (left_until_end g.T.Read.remaining x) (left_until_end g.P.Read.remaining y)
    (g.W.Write.contents c.args.out.now.device) (g.W.Write.contents c.answer-result.new.out.device) c.answer-result.result)
    c.new-task.ensures.device c.new-plan.ensures.device (record {
      answers = λ b p et ep. answered.answers.ends.output b p (λ reads. et, λ reads. ep);
      headline = λ is. IfOk-weaker c.answer-result.result _ _ (λ status h b p before et ep ew. h is b p before et ep ew) answered.headline;
      invariants = λ is. IfOk-weaker c.answer-result.result _ _ (λ status h b before et ew. h is b before et ew) answered.invariants;
    })
