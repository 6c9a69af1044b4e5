-- The operator may have removed groups.
use Rattle.sas_mutex.proofs.Imports.{◌-◌, length, Falls, IsIdle}
use Rattle.sas_mutex.proofs.greatest.look_until_quiet.Given as goal

abbrev pub invariant-loop-operator : goal.invariant-loop-operator
invariant-loop-operator g l = record {
  falls : Falls l.indexed l.fn.keeping.family l.keeping.family;
  idle : IsIdle l.indexed l.keeping;
}

abbrev pub decreases-loop-operator : goal.decreases-loop-operator
decreases-loop-operator g l = length l.indexed.groups - length l.keeping.family.fallen.items
