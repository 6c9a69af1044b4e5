use Rattle.sas_flat.proofs.Imports.{◌≤◌, take, length, ap, ◌∙◌, arith}
use Rattle.sas_flat.proofs.Blocks.{count_of, ends_taken, lists_taken}
use Rattle.sas_flat.proofs.lists.Lists.truncate.Goals as goal

pub start-requires : goal.start-requires
start-requires g c = omega (arith, c.requires, count_of c.self.inside.columns.items.items c.self.inside.columns.ends c.args.self.now c.self.view_is)

pub invariant_of-self : goal.invariant_of-self
invariant_of-self g c =
    let fewer : c.args.count ≤ length c.self.inside.columns.ends = omega (arith, c.requires, count_of c.self.inside.columns.items.items c.self.inside.columns.ends c.args.self.now c.self.view_is) in
    rw (c.truncate.ensures.items, c.truncate-2.ensures, c.start.ensures)
    (ends_taken c.self.inside.columns.items.items c.self.inside.columns.ends c.args.count c.self.invariant fewer)

pub returns : goal.returns
returns g c =
    let fewer : c.args.count ≤ length c.self.inside.columns.ends = omega (arith, c.requires, count_of c.self.inside.columns.items.items c.self.inside.columns.ends c.args.self.now c.self.view_is) in
    rw (c.truncate.ensures.items, c.truncate-2.ensures, c.start.ensures)
    (lists_taken c.self.inside.columns.items.items c.self.inside.columns.ends c.args.count c.self.invariant fewer
    ∙ ap (λ l. take c.args.count l) c.self.view_is)
