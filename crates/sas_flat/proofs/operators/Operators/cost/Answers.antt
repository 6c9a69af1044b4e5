use Rattle.sas_flat.proofs.Imports.{sym, ap, ◌∙◌, arith, Operator, Head}
use Rattle.sas_flat.proofs.FoundOperators.{as_many, found, end_is}
use Rattle.sas_flat.proofs.operators.Operators.cost.Goals as goal

pub index-requires : goal.index-requires
index-requires c = omega (arith, c.requires, c.self.inside.columns.heads.ok.0, as_many c.self.inside.columns c.args.self.now c.self.view_is)

pub returns : goal.returns
returns c =
    sym (ap (λ (o : Operator). o.cost) (found c.self.inside.columns c.args.self.now c.self.view_is c.args.operator c.requires)
    ∙ end_is c.self.inside.columns c.args.self.now c.self.view_is c.args.operator c.requires (λ (h : Head). h.cost) c.index.result.now c.index.ensures)
