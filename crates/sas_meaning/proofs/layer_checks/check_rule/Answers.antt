use Rattle.sas_meaning.proofs.Imports.{IfOk-from_err}
use Rattle.sas_meaning.proofs.FiringRules.{var_exists}
use Rattle.sas_meaning.proofs.layer_checks.check_rule.Goals as goal

pub returns-clause-known : goal.returns-clause-known
returns-clause-known g c = c.check_firing_rule.ensures.known

pub returns-in_err-check-clause-known : goal.returns-in_err-check-clause-known
returns-in_err-check-clause-known g c = IfOk-from_err c.from_residual.result _ c.from_residual.ensures.0

pub layer-requires : goal.layer-requires
layer-requires g c = var_exists (g.T.Grounded.says c.args.task.now) c.args.rule c.rule_change-change.result c.rule_change-change.ensures c.requires.rule c.requires.well_ranged

pub initial_value-requires : goal.initial_value-requires
initial_value-requires g c = var_exists (g.T.Grounded.says c.args.task.now) c.args.rule c.rule_change-change.result c.rule_change-change.ensures c.requires.rule c.requires.well_ranged
