-- The entries so far are counted.
use Rattle.sas_axioms.proofs.CountingEntries.{CountedEntries}
use Rattle.sas_axioms.proofs.following.recount.Given as goal

abbrev pub invariant-loop-condition : goal.invariant-loop-condition
invariant-loop-condition g l = CountedEntries l.indexed l.moved l.waiting l.condition-index l.fn.work l.work
