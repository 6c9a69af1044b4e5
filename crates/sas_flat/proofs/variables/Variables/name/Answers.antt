use Rattle.sas_flat.proofs.Imports.{sym, ap, ◌∙◌, arith, Some}
use Rattle.sas_flat.proofs.FoundVariables.{as_many, name_found}
use Rattle.sas_flat.proofs.Rows.{no_name}
use Rattle.sas_flat.proofs.variables.Variables.name.Goals as goal

pub get-requires : goal.get-requires
get-requires c = omega (arith, c.if-var-len.true, c.len.ensures, c.self.invariant.names, as_many c.self.inside.columns c.args.self.now c.self.view_is)

pub returns-then-var-len : goal.returns-then-var-len
returns-then-var-len c =
    ap (λ l. Some l) c.get.ensures
    ∙ sym (name_found c.self.inside.columns c.args.self.now c.self.view_is c.args.var (omega (arith, c.if-var-len.true, c.len.ensures)))

pub returns-else-var-len : goal.returns-else-var-len
returns-else-var-len c = sym (no_name c.args.self.now c.args.var (omega (arith, c.if-var-len.false, c.len.ensures)))
