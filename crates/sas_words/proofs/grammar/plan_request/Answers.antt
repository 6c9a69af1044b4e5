use Rattle.sas_words.specs.Grammar.{explained, over_task}
use Rattle.sas_words.proofs.grammar.plan_request.Goals as goal

pub returns : goal.returns
returns c = c.with_plan.ensures (over_task (explained c.args.name.now)) c.in_ok-task_request.ensures
