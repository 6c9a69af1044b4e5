-- If no loose operator removed a group, all operators are at rest.
use Rattle.sas_mutex.proofs.Imports.{◌≡◌, ℕ, List, length, sym, subst, arith, get_or_append_left, common_steps, FallenAreUnwatched, AreLooseAtRest}
use Rattle.sas_mutex.proofs.FallingGroups.{none_fell, fallen_grow, falls_then, greatest_in_the_end, none_newly, as_before}
use Rattle.sas_mutex.proofs.Watched.{none_watched, rest_in_the_end}
use Rattle.sas_mutex.proofs.greatest.Search.find_greatest.Goals as goal

pub returns-then-len-before-clause-greatest : goal.returns-then-len-before-clause-greatest
returns-then-len-before-clause-greatest g c =
    let p = c.args.indexed.now in
    let before = c.loop-before.self.keeping.family in
    let after = c.look_at_loose.new.self.keeping.family in
    let w = c.look_at_loose.new.self.watches in
    let turn = c.look_at_loose.ensures in
    let same : length after.fallen.items ≡ length before.fallen.items =
    let now = c.len.ensures in let was = c.len-before.ensures in let test = c.if-len-before.true in omega arith in
    greatest_in_the_end c.requires.candidates (falls_then c.loop-before.invariant.falls turn.falls)
    (rest_in_the_end p after w turn.ready.watched
    (subst (λ (xs : List ℕ). FallenAreUnwatched xs (length xs) w) (sym (as_before turn.falls same)) turn.unwatched)
    (subst (λ (xs : List ℕ). AreLooseAtRest p after.kept xs w (length p.operators)) (none_newly turn.falls same) turn.rest))

pub loop-before-preserved : goal.loop-before-preserved
loop-before-preserved g c = search (arith, falls_then)

pub loop-before-init : goal.loop-before-init
loop-before-init g c = grind (arith, common_steps, none_fell, none_watched)

pub look_at_watching-requires-clause-from : goal.look_at_watching-requires-clause-from
look_at_watching-requires-clause-from g c = search (arith, fallen_grow)

pub look_at_watching-requires-clause-unwatched : goal.look_at_watching-requires-clause-unwatched
look_at_watching-requires-clause-unwatched g c = grind (arith, common_steps, get_or_append_left)

pub loop-before-smaller : goal.loop-before-smaller
loop-before-smaller g c = grind (arith, common_steps, fallen_grow)
