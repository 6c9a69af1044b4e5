-- The groups so far with more than one fact are in the list.
use Rattle.sas_mutex.proofs.Imports.{take, AreLarger}
use Rattle.sas_mutex.proofs.by_fact.larger_among.Given as goal

abbrev pub invariant-loop-group : goal.invariant-loop-group
invariant-loop-group g l = AreLarger l.layered l.own (take l.group-index l.groups) l.larger.items
