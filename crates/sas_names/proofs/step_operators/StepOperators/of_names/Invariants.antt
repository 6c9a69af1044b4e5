-- All operators from this one on are stored.
use Rattle.sas_names.proofs.Imports.{◌≡◌, ◌≤◌, length, value_of, step_names}
use Rattle.sas_names.proofs.ChainsFrom.{AreChainsFrom}
use Rattle.sas_names.proofs.step_operators.StepOperators.of_names.Given as goal

abbrev pub invariant-loop-operator : goal.invariant-loop-operator
invariant-loop-operator g l = record {
  within : l.operator ≤ l.operators;
  names : length l.firsts.items ≡ length (g.P.Stepwise.says l.plan).steps;
  one_each : length l.nexts.items ≡ length (g.T.Grounded.says l.task).operators;
  are : AreChainsFrom (g.T.Grounded.says l.task) l.operator (value_of (step_names (g.P.Stepwise.says l.plan).steps) l.names.numbers) l.firsts.items l.nexts.items;
}

abbrev pub decreases-loop-operator : goal.decreases-loop-operator
decreases-loop-operator g l = l.operator
