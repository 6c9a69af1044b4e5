-- All operators that watched one more removed group were looked at again.
use Rattle.sas_mutex.proofs.Imports.{◌+◌, ◌<◌, length, get_or, sym, ◌∙◌, subst, arith, get_or_default, Contains-get_or, below_more, newly, IsUnwatched, FallenAreUnwatched}
use Rattle.sas_mutex.proofs.FallingGroups.{falls_then, fallen_grow}
use Rattle.sas_mutex.proofs.Watched.{unwatched_more, unwatched_in}
use Rattle.sas_mutex.proofs.greatest.Search.look_at_watching.Goals as goal

pub loop-next-preserved : goal.loop-next-preserved
loop-next-preserved g c =
    let p = c.args.indexed.now in
    let before = c.loop-next.self.keeping.family in
    let after = c.look_at_watchers.new.self.keeping.family in
    let w = c.loop-next.self.watches in
    let now = c.look_at_watchers.new.self.watches in
    let next = c.loop-next.next in
    let fallen = before.fallen.items in
    let inv = c.loop-next.invariant in
    let turn = c.look_at_watchers.ensures in
    let lt : next < length fallen = let len = c.len.ensures in let test = c.loop-next-test.true in omega (arith, before.fallen.ok.0) in
    let first : FallenAreUnwatched fallen next now = unwatched_more p fallen next before.kept w now
    (λ place below. inv.ready.watched.fell.out (get_or fallen place 0) (Contains-get_or fallen place 0 (omega arith))) turn.still inv.unwatched in
    let here : IsUnwatched now (get_or fallen next 0) = subst (IsUnwatched now)
    (c.index-group.ensures ∙ sym (get_or_default fallen next 0 c.index-group.result.now lt)) turn.unwatched in
    record {
      within = omega (arith, fallen_grow turn.falls);
      falls = falls_then inv.falls turn.falls;
      ready = turn.ready;
      unwatched = unwatched_in p fallen after.fallen.items (newly before after) (next + 1) now turn.falls.behind (omega arith)
          (below_more _ _ first here);
    }
