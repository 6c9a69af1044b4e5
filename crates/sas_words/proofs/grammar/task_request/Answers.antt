use Rattle.sas_words.specs.Grammar.{explained}
use Rattle.sas_words.proofs.grammar.task_request.Goals as goal

pub returns : goal.returns
returns c = c.with_task.ensures (explained c.args.name.now) c.in_ok-with_flag.ensures
