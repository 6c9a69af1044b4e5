-- One more variable has the value of the state.
use Rattle.sas_axioms.proofs.Imports.{length, get_or, set, arith, cases_eq, get_or-set_same, get_or-set_other, length-set}
use Rattle.sas_axioms.proofs.counting.ConditionCounts.follow_part.Goals as goal

pub loop-var-preserved : goal.loop-var-preserved
loop-var-preserved c = search (arith, length, set, length-set, get_or, cases_eq, get_or-set_same, get_or-set_other)
