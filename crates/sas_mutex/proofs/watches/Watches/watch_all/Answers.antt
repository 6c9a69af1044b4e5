-- One more group is watched.
use Rattle.sas_mutex.proofs.Imports.{◌≡◌, ℕ, ◌+◌, ◌<◌, ◌++◌, ◌∷◌, [], List, None, length, get_or, subst, sym, refl, arith, each_more, Watch, HasWatchFrom}
use Rattle.sas_mutex.proofs.WatchChains.{watches_one_more, has_still, has_now, grown}
use Rattle.sas_mutex.proofs.Supporting.{kept_below}
use Rattle.sas_mutex.proofs.watches.Watches.watch_all.Goals as goal

pub loop-group-preserved : goal.loop-group-preserved
loop-group-preserved c =
    let groups = c.args.groups.now in
    let kept = c.args.family.now.kept in
    let start = c.args.self.now in
    let now = c.loop-group.self in
    let after = c.watch.new.self in
    let n = c.loop-group.group-index in
    let operator = c.args.operator in
    let group = get_or groups n 0 in
    let new : Watch = record { group = group; operator = operator; before = get_or now.last group None } in
    let inv = c.loop-group.invariant in
    let made : after.made ≡ now.made ++ new ∷ [] = c.watch.ensures.made c.if-not-watch.false in
    let inside = c.has.ensures c.if-not-has.false in
    let below = kept_below kept group inside in
    record {
      more = watches_one_more kept start now after new inv.more (let len = inv.more.one_each in let each = c.requires.one_each in omega arith) inside refl made
          (c.watch.ensures.last c.if-not-watch.false) c.watch.ensures.since (c.watch.ensures.few c.if-not-watch.false);
      all = subst (λ (xs : List Watch). (k d : ℕ) → k < n + 1 → HasWatchFrom xs operator (length start.made) (get_or groups k d)) (sym made)
          (each_more (HasWatchFrom (now.made ++ new ∷ []) operator (length start.made)) groups n 0 c.loop-group-test.true
          (λ k d lt. has_still now.made (new ∷ []) operator (length start.made) (get_or groups k d) (inv.all k d lt))
          (has_now now.made new (length start.made) (grown operator kept start.made now.made inv.more.made)));
    }
