use Rattle.sas_flat.proofs.Imports.{◌<◌, ◌+◌, length, [], get_or, sym, ap, ◌∙◌, arith, Some, range_of}
use Rattle.sas_flat.proofs.FoundVariables.{as_many, values_ordered, value_number, value_found}
use Rattle.sas_flat.proofs.Rows.{no_value}
use Rattle.sas_flat.proofs.variables.Variables.value_name.Goals as goal

pub start-first-requires : goal.start-first-requires
start-first-requires c = omega (arith, c.if-var-len.false, c.len.ensures, as_many c.self.inside.columns c.args.self.now c.self.view_is)

pub end-requires : goal.end-requires
end-requires c = omega (arith, c.if-var-len.false, c.len.ensures, as_many c.self.inside.columns c.args.self.now c.self.view_is)

pub overflow_sub-end : goal.overflow_sub-end
overflow_sub-end c =
    let there : c.args.var < length c.args.self.now = omega (arith, c.if-var-len.false, c.len.ensures) in
    rw (c.start-first.ensures, c.end.ensures) (values_ordered c.self.inside.columns c.args.self.now c.self.view_is c.self.invariant c.args.var there)

pub returns-then-value-end : goal.returns-then-value-end
returns-then-value-end c =
    let there : c.args.var < length c.args.self.now = omega (arith, c.if-var-len.false, c.len.ensures) in
    let number = value_number c.self.inside.columns c.args.self.now c.self.view_is c.self.invariant c.args.var there in
    let of : c.args.value < range_of c.args.self.now c.args.var = omega (arith, c.if-value-end.true, c.start-first.ensures, c.end.ensures, number) in
    ap (λ l. Some l) c.get.ensures
    ∙ ap (λ k. Some (get_or c.self.inside.columns.values (k + c.args.value) [])) c.start-first.ensures
    ∙ sym (value_found c.self.inside.columns c.args.self.now c.self.view_is c.self.invariant c.args.var there c.args.value of)

pub returns-else-value-end : goal.returns-else-value-end
returns-else-value-end c =
    let there : c.args.var < length c.args.self.now = omega (arith, c.if-var-len.false, c.len.ensures) in
    let number = value_number c.self.inside.columns c.args.self.now c.self.view_is c.self.invariant c.args.var there in
    sym (no_value c.args.self.now c.args.var c.args.value (omega (arith, c.if-value-end.false, c.start-first.ensures, c.end.ensures, number)))
