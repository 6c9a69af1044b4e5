-- The list contains the entries of the groups so far.
use Rattle.sas_mutex.proofs.Imports.{facts_at}
use Rattle.sas_mutex.proofs.Entering.{EnteredUpTo}
use Rattle.sas_mutex.proofs.by_fact.groups_by_fact.Given as goal

abbrev pub invariant-loop-group : goal.invariant-loop-group
invariant-loop-group g l = EnteredUpTo l.firsts (facts_at l.layered l.own) l.group l.entries.items
