use Rattle.sas_requests.proofs.Imports.{ℕ, List, [], get_or, refl, ap, ◌∙◌, judged_of}
use Rattle.sas_requests.proofs.SaidPlans.{said_text}
use Rattle.sas_requests.proofs.many.answer_one.Goals as goal

pub returns-clause-ok : goal.returns-clause-ok
returns-clause-ok g c = (
  judged_of c.in_ok-report.report,
  c.in_ok-report.ensures.judges,
  said_text _ _ _ _ _ _ c.in_ok-pushed.ensures (c.label.ensures ∙ ap (λ (l : List (List ℕ)). get_or l c.args.number []) c.in_ok-report.ensures.labels) c.as_slice.ensures.value,
  refl,
)
