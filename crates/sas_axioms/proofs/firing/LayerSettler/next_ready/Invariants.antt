-- The rules so far have open conditions.
use Rattle.sas_axioms.proofs.Imports.{AreWaiting}
use Rattle.sas_axioms.proofs.firing.LayerSettler.next_ready.Given as goal

abbrev pub invariant-loop-index : goal.invariant-loop-index
invariant-loop-index l = AreWaiting l.self.work.counters l.rules l.start l.index
