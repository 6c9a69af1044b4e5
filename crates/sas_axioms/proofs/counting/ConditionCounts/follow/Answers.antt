-- One more part has the values of the state.
use Rattle.sas_axioms.proofs.Imports.{length, arith, cases_lt}
use Rattle.std.proofs.lemmas.Grind.{same_number_lists}
use Rattle.sas_axioms.proofs.counting.ConditionCounts.follow.Goals as goal

pub loop-start-preserved : goal.loop-start-preserved
loop-start-preserved g c = search (arith, length, cases_lt)

pub returns-clause-values : goal.returns-clause-values
returns-clause-values g c = search (arith, length, same_number_lists)
