use Rattle.sas_task_file.proofs.TaskJudging.{refused_fact_shape, refused_fact_value}
use Rattle.sas_task_file.proofs.task_line.fact_at.Goals as goal

pub returns-in-None : goal.returns-in-None
returns-in-None c = refused_fact_shape _ c.args.line.now c.in-None.ensures.none

pub returns-in-Some-2 : goal.returns-in-Some-2
returns-in-Some-2 c = refused_fact_value _ c.args.line.now c.in-Some.fact c.in-Some.ensures.found (λ t. let exists = c.value_in.ensures in let missing = c.if-value_in.false in cc)
