use Rattle.sas_task_file.proofs.TaskJudging.{refused_signed_shape}
use Rattle.sas_task_file.proofs.task_line.signed_at.Goals as goal

pub returns-in-None : goal.returns-in-None
returns-in-None c = refused_signed_shape _ c.args.line.now c.in-None.ensures.none
