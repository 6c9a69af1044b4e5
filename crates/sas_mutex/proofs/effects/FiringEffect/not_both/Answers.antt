-- The other effect sets a fact of the group on another variable, or doesn't.
use Rattle.sas_mutex.proofs.Imports.{arith, iff_yes, iff_other, iff_not, effect_at, change_of, operator_of}
use Rattle.sas_mutex.proofs.SetFacts.{change_exists, not_beside, clash_beside}
use Rattle.sas_mutex.proofs.effects.FiringEffect.not_both.Goals as goal

pub sets_beside-requires-clause-fact : goal.sets_beside-requires-clause-fact
sets_beside-requires-clause-fact g c = search (arith, change_exists)

pub returns-then-not-sets_beside-clause-is : goal.returns-then-not-sets_beside-clause-is
returns-then-not-sets_beside-clause-is g c = search (arith, change_of, effect_at, operator_of, iff_yes, not_beside, iff_not)

pub returns-else-not-sets_beside-clause-is : goal.returns-else-not-sets_beside-clause-is
returns-else-not-sets_beside-clause-is g c = search (arith, change_of, effect_at, operator_of, iff_other, clash_beside)
