-- All operators so far pass.
use Rattle.sas_meaning.proofs.Imports.{operator_layer_checks}
use Rattle.sas_meaning.proofs.NumberedChecks.{PassBefore}
use Rattle.sas_meaning.proofs.layer_checks.check_operators.Given as goal

abbrev pub invariant-loop-operator : goal.invariant-loop-operator
invariant-loop-operator g l =
    PassBefore (operator_layer_checks (g.T.Grounded.says l.task)) (g.T.Grounded.says l.task).operators l.operator
