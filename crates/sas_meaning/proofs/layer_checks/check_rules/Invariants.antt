-- All rules so far pass, and their new values are stored.
use Rattle.sas_meaning.proofs.Imports.{rule_layer_checks, NewValues}
use Rattle.sas_meaning.proofs.NumberedChecks.{PassBefore}
use Rattle.sas_meaning.proofs.layer_checks.check_rules.Given as goal

abbrev pub invariant-loop-rule : goal.invariant-loop-rule
invariant-loop-rule g l = record {
  pass : PassBefore (rule_layer_checks (g.T.Grounded.says l.task)) (g.T.Grounded.says l.task).rules l.rule;
  known : NewValues (g.T.Grounded.says l.task) l.rule l.new_values;
}
