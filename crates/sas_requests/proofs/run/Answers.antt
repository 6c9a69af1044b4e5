use Rattle.sas_requests.proofs.Imports.{Out, Ends, EndsCounting, exact_ends}
use Rattle.sas_requests.proofs.RequestEnds.{ends_as}
use Rattle.sas_requests.proofs.ShortOutputs.{short_output}
use Rattle.sas_requests.proofs.run.Goals as goal

pub returns-clause-answers : goal.returns-clause-answers
returns-clause-answers g c =
    let asked = c.args.request in
    ends_as g.T.Read.remaining g.P.Read.remaining g.W.Write.contents _ _ (λ b c'. EndsCounting (Out asked b c')) (λ b c'. Ends (Out asked b c')) asked _ _ _ _ c.answer.result (λ b c' Sent. exact_ends (Out asked b c') Sent (short_output asked b c') c.answer.result) c.answer.ensures.answers

pub returns-clause-headline : goal.returns-clause-headline
returns-clause-headline g c = c.answer.ensures.headline

pub returns-clause-invariants : goal.returns-clause-invariants
returns-clause-invariants g c = c.answer.ensures.invariants
