-- The verdicts on the groups so far.
use Rattle.sas_mutex.proofs.VerdictsSoFar.{FirstUpTo}
use Rattle.sas_mutex.proofs.joint.before_all_operators.Given as goal

abbrev pub invariant-loop-group : goal.invariant-loop-group
invariant-loop-group g l = FirstUpTo l.layered l.group l.verdicts
