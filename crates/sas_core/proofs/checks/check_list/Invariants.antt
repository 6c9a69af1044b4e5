-- All items so far pass.
use Rattle.sas_core.proofs.FirstFaults.{PassBefore}
use Rattle.sas_core.proofs.checks.check_list.Given as goal

abbrev pub invariant-loop-item : goal.invariant-loop-item
invariant-loop-item g l = PassBefore (g.T.Checkable.checks_of l.variables) l.items l.item-index
