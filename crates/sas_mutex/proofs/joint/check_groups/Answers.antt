-- The groups that are exclusive by the joint verdicts are invariants.
use Rattle.sas_mutex.proofs.Imports.{arith, listed_invariants}
use Rattle.sas_mutex.proofs.joint.check_groups.Goals as goal

pub returns-clause-invariants : goal.returns-clause-invariants
returns-clause-invariants g c = search (arith, listed_invariants)
