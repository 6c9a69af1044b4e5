-- The list contains the entries of the facts so far.
use Rattle.sas_mutex.proofs.Imports.{◌≡◌, ◌++◌, take, entries_of}
use Rattle.sas_mutex.proofs.by_fact.enter_facts.Given as goal

abbrev pub invariant-loop-fact : goal.invariant-loop-fact
invariant-loop-fact l = l.entries.items ≡ l.fn.entries.items ++ entries_of l.firsts l.group (take l.fact-index l.facts)
