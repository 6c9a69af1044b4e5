use Rattle.sas_c.proofs.Imports.{plain}
use Rattle.sas_c.proofs.Returned.{headline_reported}
use Rattle.sas_c.proofs.requests.sas_plan.Goals as goal

pub returns-clause-headline : goal.returns-clause-headline
returns-clause-headline c = headline_reported plain c.args.task.now c.args.plan.now _ _ _ _ c.answer_call.ensures
