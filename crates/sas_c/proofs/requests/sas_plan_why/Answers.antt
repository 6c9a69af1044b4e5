use Rattle.sas_c.proofs.Imports.{explained}
use Rattle.sas_c.proofs.Returned.{headline_reported}
use Rattle.sas_c.proofs.requests.sas_plan_why.Goals as goal

pub returns-clause-headline : goal.returns-clause-headline
returns-clause-headline c = headline_reported explained c.args.task.now c.args.plan.now _ _ _ _ c.answer_call.ensures
