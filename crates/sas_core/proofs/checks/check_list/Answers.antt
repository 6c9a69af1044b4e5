-- The first item that fails determines the fault.
use Rattle.sas_core.proofs.Imports.{rules, ◌≡◌, ◌∙◌, Some, result_err}
use Rattle.sas_core.proofs.FirstFaults.{pass_before_next, fails_at}
use Rattle.sas_core.proofs.checks.check_list.Goals as goal

pub loop-item-preserved : goal.loop-item-preserved
loop-item-preserved g c = pass_before_next (g.T.Checkable.checks_of c.args.variables.now) _ _ c.as_slice-item-items.ensures _ _ c.loop-item-test.true c.item-item.is c.loop-item.invariant c.in_ok-check_among.ensures

pub returns-in_err-check_among : goal.returns-in_err-check_among
returns-in_err-check_among g c =
    let same : result_err c.from_residual-in_err-check_among.result ≡ Some c.in_err-check_among.field-0.0 = search rules in
    same ∙ fails_at (g.T.Checkable.checks_of c.args.variables.now) _ _ c.as_slice-item-items.ensures _ _ c.loop-item-test.true c.item-item.is c.loop-item.invariant _ c.in_err-check_among.ensures
