-- Each fact so far is below the next one.
use Rattle.sas_mutex.proofs.InOrder.{AreAscending}
use Rattle.sas_mutex.proofs.distinct.is_ascending.Given as goal

abbrev pub invariant-loop-place : goal.invariant-loop-place
invariant-loop-place l = AreAscending l.facts l.place
