use Rattle.sas_requests.proofs.Imports.{Out, OutBy, SendsLine, ends_by, exact_ends}
use Rattle.sas_requests.proofs.RequestEnds.{headline_reported, invariants_reported}
use Rattle.sas_requests.proofs.SaidOutputs.{headline_said, invariants_said}
use Rattle.sas_requests.proofs.ShortOutputs.{short_output}
use Rattle.sas_requests.proofs.answers.answer.Goals as goal

pub returns-clause-answers : goal.returns-clause-answers
returns-clause-answers g c = c.answer_request.ensures

pub returns-clause-plain : goal.returns-clause-plain
returns-clause-plain g c = λ b c' inputs plain.
    let asked = c.args.question in
    exact_ends (Out asked.request b c') _ (short_output asked.request b c') _ (ends_by _ (OutBy asked.detail asked.request b c') (Out asked.request b c') _ plain (c.answer_request.ensures.ends.output b c' inputs))

pub returns-clause-headline : goal.returns-clause-headline
returns-clause-headline g c =
    let asked = c.args.question in
    let old = g.W.Write.contents c.args.out.now.device in
    let new = g.W.Write.contents c.answer_request.new.out.device in
    headline_reported (OutBy asked.detail) asked.request _ _ old new (SendsLine asked.detail.trace old new) (λ b c' o out. headline_said asked.detail b c' o out old new) c.answer_request.result c.answer_request.ensures.ends.output

pub returns-clause-invariants : goal.returns-clause-invariants
returns-clause-invariants g c =
    let asked = c.args.question in
    invariants_reported (OutBy asked.detail) asked.request _ (g.P.Read.remaining c.args.plan.now.device) _ _ (invariants_said asked.detail) c.answer_request.result c.answer_request.ensures.ends.output
