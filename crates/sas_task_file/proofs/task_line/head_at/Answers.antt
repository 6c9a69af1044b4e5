use Rattle.sas_task_file.proofs.TaskJudging.{refused_head_shape, refused_head_value}
use Rattle.sas_task_file.proofs.task_line.head_at.Goals as goal

pub returns-in-None : goal.returns-in-None
returns-in-None c = refused_head_shape _ c.args.line.now c.in-None.ensures.none

pub returns-in-Some-2 : goal.returns-in-Some-2
returns-in-Some-2 c =
    let change = c.in-Some.change in
    refused_head_value _ c.args.line.now change.var change.old change.new c.in-Some.ensures.found (λ t. let exists = c.change_in.ensures in let missing = c.if-change_in.false in cc)
