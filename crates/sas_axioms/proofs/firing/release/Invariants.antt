-- The entries so far are counted.
use Rattle.sas_axioms.proofs.Counters.{Releasing}
use Rattle.sas_axioms.proofs.firing.release.Given as goal

abbrev pub invariant-loop-waiting : goal.invariant-loop-waiting
invariant-loop-waiting g l = Releasing l.indexed l.moved l.waiting-items l.waiting-index l.fn.state l.fn.work l.state l.work
