use Rattle.std.proofs.Common.{codes}
use Rattle.sas_words.specs.Grammar.{explained, over_task}
use Rattle.sas_words.proofs.grammar.plans_request.Goals as goal

pub returns : goal.returns
returns c = c.with_plans.ensures (over_task (explained (codes "plans"))) c.in_ok-task_request.ensures
