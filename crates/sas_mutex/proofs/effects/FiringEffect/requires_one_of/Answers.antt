-- The old value is a fact of the group.
use Rattle.sas_mutex.proofs.Imports.{arith}
use Rattle.sas_mutex.proofs.OldValues.{old_one_is_all}
use Rattle.sas_mutex.proofs.effects.FiringEffect.requires_one_of.Goals as goal

pub returns-in-Some : goal.returns-in-Some
returns-in-Some g c = search (arith, old_one_is_all)
