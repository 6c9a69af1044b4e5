use Rattle.sas_task_file.proofs.TaskReading.{head_spelled, no_head, more_than_head}
use Rattle.sas_task_file.proofs.task_line.parse_change.Goals as goal

pub returns-in_default-clause-none : goal.returns-in_default-clause-none
returns-in_default-clause-none c = no_head c.args.line.now _ c.new-parts.ensures c.in_default.ensures.none

pub returns-then-is_over-clause-found : goal.returns-then-is_over-clause-found
returns-then-is_over-clause-found c =
    let change = c.in-Some.change in
    head_spelled c.args.line.now _ c.new-parts.ensures _ change.var change.old change.new c.in-Some.ensures.found (c.is_over.ensures.0 c.if-is_over.true)

pub returns-else-is_over-clause-none : goal.returns-else-is_over-clause-none
returns-else-is_over-clause-none c =
    let change = c.in-Some.change in
    more_than_head c.args.line.now _ c.new-parts.ensures _ change.var change.old change.new c.in-Some.ensures.found (λ e. let over = c.is_over.ensures.1 e in let left = c.if-is_over.false in cc)
