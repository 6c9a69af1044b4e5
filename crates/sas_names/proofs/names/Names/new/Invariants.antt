-- The table and the list are right for all operators from this one on.
use Rattle.sas_names.proofs.Imports.{◌≤◌, length, AreNamesFrom}
use Rattle.sas_names.proofs.names.Names.new.Given as goal

abbrev pub invariant-loop-operator : goal.invariant-loop-operator
invariant-loop-operator g l = record {
  within : l.operator ≤ length (g.T.Grounded.says l.task).operators;
  are : AreNamesFrom (g.T.Grounded.says l.task) l.operator l.names;
}

abbrev pub decreases-loop-operator : goal.decreases-loop-operator
decreases-loop-operator g l = l.operator
