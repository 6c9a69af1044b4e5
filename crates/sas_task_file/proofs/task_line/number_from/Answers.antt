use Rattle.sas_task_file.proofs.Imports.{arith, and_parts}
use Rattle.sas_task_file.proofs.TaskSections.{is_less}
use Rattle.std.proofs.Common.{◌+◌, nat_lt}
use Rattle.sas_task_file.proofs.TaskJudging.{refused_number_shape, refused_number_value}
use Rattle.sas_task_file.proofs.task_line.number_from.Goals as goal

pub returns-in-None : goal.returns-in-None
returns-in-None c = refused_number_shape _ c.args.line.now c.in-None.ensures.none

pub returns-in-Some-2 : goal.returns-in-Some-2
returns-in-Some-2 c =
    let n = c.in-Some.n in
    let spelled = c.in-Some.ensures.found in
    refused_number_value _ c.args.line.now n spelled.0 spelled.1 (λ t. omega (arith, is_less n (c.args.most + 1) (and_parts (nat_lt c.args.least (n + 1)) (nat_lt n (c.args.most + 1)) t).1, c.if-n-most.false))

pub returns-in-Some-2-2 : goal.returns-in-Some-2-2
returns-in-Some-2-2 c =
    let n = c.in-Some.n in
    let spelled = c.in-Some.ensures.found in
    refused_number_value _ c.args.line.now n spelled.0 spelled.1 (λ t. omega (arith, is_less c.args.least (n + 1) (and_parts (nat_lt c.args.least (n + 1)) (nat_lt n (c.args.most + 1)) t).0, c.if-least-n.false))
