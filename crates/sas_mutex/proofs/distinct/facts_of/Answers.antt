-- A nonempty own list replaces the list in the task.
use Rattle.sas_mutex.proofs.Imports.{arith, get_or-eq_default, common_steps}
use Rattle.sas_mutex.proofs.InOrder.{own_empty, own_some}
use Rattle.sas_mutex.proofs.distinct.facts_of.Goals as goal

pub returns-then-not-is_empty : goal.returns-then-not-is_empty
returns-then-not-is_empty g c = grind (arith, common_steps, own_some)

pub returns-else-place-len : goal.returns-else-place-len
returns-else-place-len g c = grind (arith, common_steps, get_or-eq_default, own_empty)
