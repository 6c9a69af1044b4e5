-- What the chooser means are the operators of the names.
use Rattle.sas_plan_reasons.proofs.Imports.{named_ending}
use Rattle.sas_plan_reasons.proofs.writing.explain_plan.Goals as goal

pub explain_end-requires-clause-ends : goal.explain_end-requires-clause-ends
explain_end-requires-clause-ends g c =
    named_ending c.args.named.now.task.now c.args.named.now.plan.now c.in_ok-end.end.operators.items c.in_ok-end.end.fault c.in_ok-end.ensures.ends
