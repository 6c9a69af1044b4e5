-- Where no group may be exclusive, no operator is looked at.
use Rattle.sas_mutex.proofs.Imports.{arith}
use Rattle.sas_mutex.proofs.JointLists.{decided_at_first}
use Rattle.sas_mutex.proofs.VerdictsSoFar.{no_failures}
use Rattle.sas_mutex.proofs.joint.joint_verdicts.Goals as goal

pub returns-then-not-some_exclusive-clause-verdicts : goal.returns-then-not-some_exclusive-clause-verdicts
returns-then-not-some_exclusive-clause-verdicts g c = search (arith, decided_at_first)

pub returns-then-not-some_exclusive-clause-failures : goal.returns-then-not-some_exclusive-clause-failures
returns-then-not-some_exclusive-clause-failures g c = search (arith, no_failures)
