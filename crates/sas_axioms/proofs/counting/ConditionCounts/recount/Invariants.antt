-- The entries so far are counted.
use Rattle.sas_axioms.proofs.CountingEntries.{CountersSoFar}
use Rattle.sas_axioms.proofs.counting.ConditionCounts.recount.Given as goal

abbrev pub invariant-loop-condition : goal.invariant-loop-condition
invariant-loop-condition l = CountersSoFar l.moved l.condition-items l.condition-index l.fn.self.counters l.counters
