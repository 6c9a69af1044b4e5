-- The first rule that fails determines the fault.
use Rattle.sas_meaning.proofs.Imports.{rules, ◌≡◌, ◌∙◌, Some, arith, refl, result_err, rule_layer_checks}
use Rattle.sas_meaning.proofs.NumberedChecks.{pass_before_next, fails_at, pass_all}
use Rattle.sas_meaning.proofs.layer_checks.check_rules.Goals as goal

pub loop-rule-preserved : goal.loop-rule-preserved
loop-rule-preserved g c =
    let p = g.T.Grounded.says c.args.task.now in
    record {
      pass = pass_before_next (rule_layer_checks p) p.rules _ _ _ (omega arith) refl c.loop-rule.invariant.pass c.in_ok-check_rule.ensures.first;
      known = c.in_ok-check_rule.ensures.known;
    }

pub returns-in_err-check_rule : goal.returns-in_err-check_rule
returns-in_err-check_rule g c =
    let p = g.T.Grounded.says c.args.task.now in
    let same : result_err c.from_residual.result ≡ Some c.in_err-check_rule.field-0.0 = search rules in
    same ∙ fails_at (rule_layer_checks p) p.rules _ _ _ (omega arith) refl c.loop-rule.invariant.pass _ c.in_err-check_rule.ensures.first

pub returns : goal.returns
returns g c = search (arith, pass_all, rule_layer_checks, rules)
