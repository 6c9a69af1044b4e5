use Rattle.sas_flat.proofs.Imports.{List, Operator, Hold, OperatorColumnsAlign, AreOpen, operators_in, append-nil, refl, sym, subst, ◌∙◌}
use Rattle.sas_flat.proofs.Grown.{operators_opened, operators_more}
use Rattle.sas_flat.proofs.Kept.{on_any_error}
use Rattle.sas_flat.proofs.operators.OperatorColumns.append.Goals as goal

pub returns-in_err-take_all-clause-err : goal.returns-in_err-take_all-clause-err
returns-in_err-take_all-clause-err c = on_any_error c.from_residual-in_err-take_all.result
    (operators_opened c.args.self.now _ refl refl c.requires (record { more = c.args.prevail.now; is = c.in_ok-extend_from_slice.ensures.items })
    (record { more = _; is = c.in_err-take_all.ensures.err ∙ sym (append-nil _) }))

pub returns-in_err-push-clause-err : goal.returns-in_err-push-clause-err
returns-in_err-push-clause-err c =
    let begun = operators_opened c.args.self.now (record { names = c.args.self.now.names; prevail = c.extend_from_slice.new.self; effects = c.take_all.new.self; heads = c.args.self.now.heads }) refl refl c.requires
    (record { more = c.args.prevail.now; is = c.in_ok-extend_from_slice.ensures.items }) (record { more = c.args.effects.now; is = c.in_ok-take_all.ensures.ok }) in
    on_any_error c.from_residual-in_err-push.result
    (subst (λ (os : List Operator). Hold (OperatorColumnsAlign AreOpen) operators_in c.push.new.self os) begun.is c.in_err-push.ensures.err)

pub returns-clause-ok : goal.returns-clause-ok
returns-clause-ok c =
    operators_more c.args.self.now (record { names = c.args.self.now.names; prevail = c.extend_from_slice.new.self; effects = c.take_all.new.self; heads = c.args.self.now.heads }) refl refl c.requires
    (record { more = c.args.prevail.now; is = c.in_ok-extend_from_slice.ensures.items }) (record { more = c.args.effects.now; is = c.in_ok-take_all.ensures.ok })
    c.args.name.now c.args.cost _ c.in_ok-push.ensures.ok
