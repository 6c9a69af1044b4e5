use Rattle.std.proofs.Common.{codes}
use Rattle.sas_words.specs.Grammar.{explained}
use Rattle.sas_words.proofs.grammar.steps_request.Goals as goal

pub returns : goal.returns
returns c = c.with_plan.ensures (explained (codes "steps")) c.in_ok-with_flag.ensures
