use Rattle.sas_flat.proofs.Imports.{arith, ◌<◌, length}
use Rattle.sas_flat.proofs.Blocks.{count_of, list_of}
use Rattle.sas_flat.proofs.lists.Lists.get.Goals as goal

pub start-start-requires : goal.start-start-requires
start-start-requires g c = omega (arith, c.requires, count_of c.self.inside.columns.items.items c.self.inside.columns.ends c.args.self.now c.self.view_is)

pub end-requires : goal.end-requires
end-requires g c = omega (arith, c.requires, count_of c.self.inside.columns.items.items c.self.inside.columns.ends c.args.self.now c.self.view_is)

pub part-requires-clause-ordered : goal.part-requires-clause-ordered
part-requires-clause-ordered g c =
    let below : c.args.index < length c.self.inside.columns.ends = omega (arith, c.requires, count_of c.self.inside.columns.items.items c.self.inside.columns.ends c.args.self.now c.self.view_is) in
    rw (c.start-start.ensures, c.end.ensures) (c.self.invariant.ascending c.args.index below)

pub part-requires-clause-within : goal.part-requires-clause-within
part-requires-clause-within g c =
    let below : c.args.index < length c.self.inside.columns.ends = omega (arith, c.requires, count_of c.self.inside.columns.items.items c.self.inside.columns.ends c.args.self.now c.self.view_is) in
    rw (c.end.ensures, c.as_slice.ensures.value) (c.self.invariant.within c.args.index below)

pub returns : goal.returns
returns g c =
    rw (c.part.ensures, c.start-start.ensures, c.end.ensures, c.as_slice.ensures.value)
    (list_of c.self.inside.columns.items.items c.self.inside.columns.ends c.args.self.now c.self.view_is c.args.index c.requires)
