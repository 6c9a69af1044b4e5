-- The checks of the operators come first, then those of the rules.
use Rattle.std.proofs.lemmas.Grind.{common_steps}
use Rattle.sas_meaning.proofs.Imports.{arith, rules, ◌≡◌, ◌∙◌, result_err, fails_before, decides_after, numbered_checks, operator_layer_checks, rule_layer_checks}
use Rattle.sas_meaning.proofs.layer_checks.check_layers.Goals as goal

pub returns-in_err-check_operators-clause-first : goal.returns-in_err-check_operators-clause-first
returns-in_err-check_operators-clause-first g c = search (arith, result_err, rules, fails_before, numbered_checks, operator_layer_checks, rule_layer_checks)

pub returns-clause-first : goal.returns-clause-first
returns-clause-first g c = search (arith, decides_after, numbered_checks, operator_layer_checks, rule_layer_checks, rules)

pub check_rules-requires-clause-known : goal.check_rules-requires-clause-known
check_rules-requires-clause-known g c = grind (arith, common_steps)
