-- The next operator is one of the chain.
use Rattle.sas_run.proofs.Imports.{IfSome, None, IsIn}
use Rattle.sas_run.proofs.Searching.{left}
use Rattle.sas_run.proofs.long_chains.splitting_variable.Given as goal

abbrev pub invariant-loop-next : goal.invariant-loop-next
invariant-loop-next g l = IfSome l.next (IsIn l.layered l.first None)

abbrev pub decreases-loop-next : goal.decreases-loop-next
decreases-loop-next g l = left l.layered l.next
