-- The chosen fact is one of the facts.
use Rattle.sas_mutex.proofs.Imports.{Contains, IfSome}
use Rattle.sas_mutex.proofs.notes.widest_of.Given as goal

abbrev pub invariant-loop-fact : goal.invariant-loop-fact
invariant-loop-fact l = IfSome l.widest (Contains l.facts)
