use Rattle.sas_c.proofs.NumberHeadlines.{run_returned}
use Rattle.sas_c.proofs.runs.sas_task_run.Goals as goal

pub returns-clause-headline : goal.returns-clause-headline
returns-clause-headline c =
    let run = c.args.run.now in
    run_returned c.args.task.now.pointer.task run.start.now run.operators.now run.cost _ _ _ _ c.answer_held.ensures.layered c.answer_held.ensures.answers.of_task
