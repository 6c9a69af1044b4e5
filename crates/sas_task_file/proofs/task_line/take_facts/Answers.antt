use Rattle.sas_task_file.proofs.TaskReading.{no_more_facts}
use Rattle.sas_task_file.proofs.task_line.take_facts.Goals as goal

pub returns-in_default-clause-none : goal.returns-in_default-clause-none
returns-in_default-clause-none c = λ e. no_more_facts c.args.parts.now c.loop-i.parts c.loop-i._i c.args.count c.loop-i.facts c.loop-i.invariant c.loop-i-test.true c.in_default.ensures.none
