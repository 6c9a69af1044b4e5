-- The rules so far that have no open conditions have fired.
use Rattle.sas_axioms.proofs.Imports.{◌-◌, length}
use Rattle.sas_axioms.proofs.Standing.{FiringTo}
use Rattle.sas_axioms.proofs.firing.fire_ready.Given as goal

abbrev pub invariant-loop-next : goal.invariant-loop-next
invariant-loop-next g l = FiringTo l.indexed l.rules l.start l.next l.fn.state l.fn.work l.state l.work

abbrev pub decreases-loop-next : goal.decreases-loop-next
decreases-loop-next g l = length l.rules - l.next
