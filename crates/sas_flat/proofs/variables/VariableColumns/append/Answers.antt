use Rattle.sas_flat.proofs.Imports.{List, Variable, Hold, VariableColumnsAlign, AreOpen, variables_in, refl, subst}
use Rattle.sas_flat.proofs.Grown.{variables_opened, variables_more}
use Rattle.sas_flat.proofs.Kept.{on_any_error}
use Rattle.sas_flat.proofs.variables.VariableColumns.append.Goals as goal

pub returns-in_err-push-clause-err : goal.returns-in_err-push-clause-err
returns-in_err-push-clause-err c =
    let begun = variables_opened c.args.self.now (record c.args.self.now { values = c.append.new.self }) refl refl refl c.requires
    (record { more = c.args.values.now; is = c.in_ok-append.ensures.ok }) in
    on_any_error c.from_residual-in_err-push.result
    (subst (λ (vs : List Variable). Hold (VariableColumnsAlign AreOpen) variables_in c.push.new.self vs) begun.is c.in_err-push.ensures.err)

pub returns-clause-ok : goal.returns-clause-ok
returns-clause-ok c =
    variables_more c.args.self.now (record c.args.self.now { values = c.append.new.self }) refl refl refl c.requires
    (record { more = c.args.values.now; is = c.in_ok-append.ensures.ok }) c.args.name.now c.args.layer _ c.in_ok-push.ensures.ok
