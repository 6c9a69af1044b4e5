use Rattle.sas_c.proofs.NumberHeadlines.{from_initial, numbers_returned}
use Rattle.sas_c.proofs.plans.sas_task_plan_operators.Goals as goal

pub returns-clause-answers : goal.returns-clause-answers
returns-clause-answers c = from_initial c.args.task.now.pointer.task _ c.args.operators.now c.args.cost _ _ _ _ c.answer_held.ensures.answers

pub returns-clause-headline : goal.returns-clause-headline
returns-clause-headline c = numbers_returned c.args.task.now.pointer.task c.args.operators.now c.args.cost _ _ _ _ c.answer_held.ensures.layered (returns-clause-answers c).of_task
