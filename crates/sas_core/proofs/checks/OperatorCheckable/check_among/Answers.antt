-- The first part that fails determines the fault.
use Rattle.sas_core.proofs.Imports.{rules, ◌≡◌, ◌∙◌, Some, result_err, operator_checks, first_fault}
use Rattle.sas_core.proofs.FirstFaults.{fails_before, decides_after}
use Rattle.sas_core.proofs.checks.OperatorCheckable.check_among.Goals as goal

pub returns-in_err-check_among : goal.returns-in_err-check_among
returns-in_err-check_among c =
    let same : result_err c.from_residual.result ≡ Some c.in_err-check_among.field-0.0 = search rules in
    let first : Some c.in_err-check_among.field-0.0 ≡ first_fault (operator_checks c.args.variables.now c.args.self.now) = search (rules, fails_before, c.in_err-check_among.ensures) in
    same ∙ first

pub returns-in_err-check_list : goal.returns-in_err-check_list
returns-in_err-check_list c =
    let same : result_err c.from_residual-in_err-check_list.result ≡ Some c.in_err-check_list.field-0.0 = search rules in
    let first : Some c.in_err-check_list.field-0.0 ≡ first_fault (operator_checks c.args.variables.now c.args.self.now) = search (rules, fails_before, decides_after, c.in_ok-check_among.ensures, c.in_err-check_list.ensures) in
    same ∙ first

pub returns-in_err-check_list-2 : goal.returns-in_err-check_list-2
returns-in_err-check_list-2 c =
    let same : result_err c.from_residual-in_err-check_list-2.result ≡ Some c.in_err-check_list-2.field-0.0 = search rules in
    let first : Some c.in_err-check_list-2.field-0.0 ≡ first_fault (operator_checks c.args.variables.now c.args.self.now) = search (rules, fails_before, decides_after, c.in_ok-check_among.ensures, c.in_ok-check_list.ensures, c.in_err-check_list-2.ensures) in
    same ∙ first
