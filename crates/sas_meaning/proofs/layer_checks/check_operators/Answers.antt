-- The first operator that fails determines the fault.
use Rattle.sas_meaning.proofs.Imports.{rules, ◌≡◌, ◌∙◌, Some, arith, refl, result_err, operator_layer_checks}
use Rattle.sas_meaning.proofs.NumberedChecks.{pass_before_next, fails_at, pass_all, pass_basic}
use Rattle.sas_meaning.proofs.layer_checks.check_operators.Goals as goal

pub loop-operator-preserved : goal.loop-operator-preserved
loop-operator-preserved g c =
    let p = g.T.Grounded.says c.args.task.now in
    pass_before_next (operator_layer_checks p) p.operators _ _ _ (omega arith) refl c.loop-operator.invariant c.in_ok-check_operator.ensures

pub returns-in_err-check_operator : goal.returns-in_err-check_operator
returns-in_err-check_operator g c =
    let p = g.T.Grounded.says c.args.task.now in
    let same : result_err c.from_residual.result ≡ Some c.in_err-check_operator.field-0.0 = search rules in
    same ∙ fails_at (operator_layer_checks p) p.operators _ _ _ (omega arith) refl c.loop-operator.invariant _ c.in_err-check_operator.ensures

pub returns : goal.returns
returns g c = search (arith, pass_all, operator_layer_checks)

pub returns-then-not-has_derived : goal.returns-then-not-has_derived
returns-then-not-has_derived g c = pass_basic (g.T.Grounded.says c.args.task.now) (c.has_derived.ensures c.if-not-has_derived.true)
