-- The first section that fails determines the fault.
use Rattle.std.proofs.Common.{arith}
use Rattle.std.proofs.lemmas.Grind.{common_steps}
use Rattle.sas_core.proofs.Imports.{rules, ◌≡◌, ◌∙◌, Some, result_err, checks, first_fault}
use Rattle.sas_core.proofs.FirstFaults.{fails_before, decides_after}
use Rattle.sas_core.proofs.checks.check_parts.Goals as goal

pub returns-in_err-check_some : goal.returns-in_err-check_some
returns-in_err-check_some c = grind (arith, common_steps, fails_before)

pub returns-in_err-check_list : goal.returns-in_err-check_list
returns-in_err-check_list c =
    let same : result_err c.from_residual-in_err-check_list.result ≡ Some c.in_err-check_list.field-0.0 = search rules in
    let first : Some c.in_err-check_list.field-0.0 ≡ first_fault (checks c.args.parts.now) = search (rules, fails_before, decides_after, c.in_ok-check_some.ensures, c.in_err-check_list.ensures) depth 12 in
    same ∙ first

pub returns-in_err-check_list-2 : goal.returns-in_err-check_list-2
returns-in_err-check_list-2 c =
    let same : result_err c.from_residual-in_err-check_list-2.result ≡ Some c.in_err-check_list-2.field-0.0 = search rules in
    let first : Some c.in_err-check_list-2.field-0.0 ≡ first_fault (checks c.args.parts.now) = search (rules, fails_before, decides_after, c.in_ok-check_some.ensures, c.in_ok-check_list.ensures, c.in_err-check_list-2.ensures) depth 12 in
    same ∙ first

pub returns-in_err-check_state : goal.returns-in_err-check_state
returns-in_err-check_state c = grind (arith, common_steps, fails_before, decides_after)

pub returns-in_err-check_list-3 : goal.returns-in_err-check_list-3
returns-in_err-check_list-3 c =
    let same : result_err c.from_residual-in_err-check_list-3.result ≡ Some c.in_err-check_list-3.field-0.0 = search rules in
    let first : Some c.in_err-check_list-3.field-0.0 ≡ first_fault (checks c.args.parts.now) = search (rules, fails_before, decides_after, c.in_ok-check_some.ensures, c.in_ok-check_list.ensures, c.in_ok-check_list-2.ensures, c.in_ok-check_state.ensures, c.in_err-check_list-3.ensures) depth 12 in
    same ∙ first

pub returns-in_err-check_list-4 : goal.returns-in_err-check_list-4
returns-in_err-check_list-4 c =
    let same : result_err c.from_residual-in_err-check_list-4.result ≡ Some c.in_err-check_list-4.field-0.0 = search rules in
    let first : Some c.in_err-check_list-4.field-0.0 ≡ first_fault (checks c.args.parts.now) = search (rules, fails_before, decides_after, c.in_ok-check_some.ensures, c.in_ok-check_list.ensures, c.in_ok-check_list-2.ensures, c.in_ok-check_state.ensures, c.in_ok-check_list-3.ensures, c.in_err-check_list-4.ensures) depth 12 in
    same ∙ first
