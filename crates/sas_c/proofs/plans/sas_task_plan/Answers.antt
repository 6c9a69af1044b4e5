use Rattle.sas_c.proofs.Imports.{plain}
use Rattle.sas_c.proofs.Returned.{plan_reported, headline_reported}
use Rattle.sas_c.proofs.plans.sas_task_plan.Goals as goal

pub returns-clause-bytes : goal.returns-clause-bytes
returns-clause-bytes c = λ b holds. plan_reported plain b c.args.plan.now _ _ _ _ _ holds c.answer_held.ensures.answers.of_task

pub returns-clause-headline : goal.returns-clause-headline
returns-clause-headline c = λ b holds. headline_reported plain b c.args.plan.now c.args.room.now _ _ _ (returns-clause-bytes c b holds)
