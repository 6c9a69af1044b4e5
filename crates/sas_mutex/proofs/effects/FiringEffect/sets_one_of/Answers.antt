-- The index contains all groups with the fact that the effect sets.
use Rattle.sas_mutex.proofs.Imports.{get_or, ◌∙◌, ap, arith, Contains-get_or, both_ways, family_of}
use Rattle.sas_mutex.proofs.effects.FiringEffect.sets_one_of.Goals as goal

pub bounds-kept-group : goal.bounds-kept-group
bounds-kept-group g c =
    let place = get_or c.groups-group-items.result.now c.loop-group.group-index 0 in
    let below = ((c.groups-group-items.ensures place).0 (Contains-get_or c.groups-group-items.result.now c.loop-group.group-index 0 c.loop-group-test.true)).exists in
    let as_many = c.requires in omega arith

pub returns : goal.returns
returns g c none place in_family has =
    let (k, lt, is) = (c.groups-group-items.ensures place).1 has in
    both_ways _ (c.loop-group.invariant k place (let end = c.loop-group-test.false in omega arith)) (ap (λ n. family_of c.args.kept.now n) is ∙ in_family.chosen)
