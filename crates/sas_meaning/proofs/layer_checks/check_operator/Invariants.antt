-- All effects so far pass.
use Rattle.sas_meaning.proofs.Imports.{operator_at, effect_layer_checks}
use Rattle.sas_meaning.proofs.NumberedChecks.{PassBefore}
use Rattle.sas_meaning.proofs.layer_checks.check_operator.Given as goal

abbrev pub invariant-loop-effect : goal.invariant-loop-effect
invariant-loop-effect g l =
    PassBefore (effect_layer_checks (g.T.Grounded.says l.task) l.operator) (operator_at (g.T.Grounded.says l.task) l.operator).effects l.effect
