-- The spans so far.
use Rattle.sas_meaning.proofs.Spans.{SpansUpTo}
use Rattle.sas_meaning.proofs.derived.derived_spans.Given as goal

abbrev pub invariant-loop-var : goal.invariant-loop-var
invariant-loop-var g l = SpansUpTo l.task l.start l.var l.spans.items
