use Rattle.sas_flat.proofs.Imports.{List, length, take, sym, ap, ◌∙◌, arith, sum_by}
use Rattle.sas_flat.proofs.Blocks.{count_of}
use Rattle.sas_flat.proofs.Sums.{items_before}
use Rattle.sas_flat.proofs.lists.Lists.items_before.Goals as goal

pub start-requires : goal.start-requires
start-requires g c = omega (arith, c.requires, count_of c.self.inside.columns.items.items c.self.inside.columns.ends c.args.self.now c.self.view_is)

pub returns : goal.returns
returns g c =
    let columns = c.self.inside.columns in
    c.start.ensures
    ∙ sym (items_before columns.items.items columns.ends c.args.count c.self.invariant (omega (arith, c.requires, count_of columns.items.items columns.ends c.args.self.now c.self.view_is)))
    ∙ ap (λ l. sum_by (λ i. length i) (take c.args.count l)) c.self.view_is
