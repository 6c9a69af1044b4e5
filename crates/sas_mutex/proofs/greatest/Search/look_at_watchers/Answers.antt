-- The operator of one more watch was looked at again, or the watch wasn't valid any more.
use Rattle.sas_mutex.proofs.Imports.{ℕ, List, sym, ◌∙◌, ap, subst, Watch, watch_at, since_of, IsLastBelow}
use Rattle.sas_mutex.proofs.FallingGroups.{falls_then}
use Rattle.sas_mutex.proofs.Watched.{IsUnwatchedBehind, unwatched_behind, unwatched_if_over, over_now, stays_unwatched, stay_then}
use Rattle.sas_mutex.proofs.greatest.Search.look_at_watchers.Goals as goal

pub loop-next-preserved-then-counts : goal.loop-next-preserved-then-counts
loop-next-preserved-then-counts g c =
    let p = c.args.indexed.now in
    let start = c.args.self.now.keeping.family in
    let before = c.loop-next.self.keeping.family in
    let after = c.look_once.new.self.keeping.family in
    let w = c.loop-next.self.watches in
    let now = c.look_once.new.self.watches in
    let at = c.in-Some.place in
    let group = c.args.group in
    let inv = c.loop-next.invariant in
    let turn = c.look_once.ensures in
    let made = c.as_slice-in-Some.result.now in
    let same = c.as_slice-in-Some.ensures in
    let operator = (watch_at made at).operator in
    let unwatched = subst (IsUnwatchedBehind w group) c.in-Some.is inv.unwatched in
    let one_each = turn.ready.idle.room.one_each in
    record {
      falls = falls_then inv.falls turn.falls;
      ready = turn.ready;
      unwatched = unwatched_behind p before after w now operator turn.falls one_each turn.anew group at (watch_at made at).before
          (λ is. c.requires.fell (inv.falls.less group (record { exists = c.requires.group; chosen = is })).chosen) unwatched.0 unwatched.1 unwatched.2
          (over_now p before after w now operator turn.falls one_each turn.anew at unwatched.0 (ap (λ (xs : List Watch). (watch_at xs at).operator) (sym same)))
          (subst (λ (xs : List Watch). IsLastBelow w.made at group (watch_at xs at).before) (sym same)
          (subst (λ (n : ℕ). IsLastBelow w.made at n (watch_at w.made at).before) unwatched.1 (inv.ready.watched.chained.of_watches at unwatched.0)));
      still = stay_then p start before c.args.self.now.watches w now inv.falls inv.ready.idle.room.one_each inv.still
          (stays_unwatched p before after w now operator turn.falls one_each turn.anew);
    }

pub loop-next-preserved : goal.loop-next-preserved
loop-next-preserved g c =
    let w = c.loop-next.self.watches in
    let at = c.in-Some.place in
    let group = c.args.group in
    let inv = c.loop-next.invariant in
    let made = c.as_slice-in-Some.result.now in
    let same = c.as_slice-in-Some.ensures in
    let unwatched = subst (IsUnwatchedBehind w group) c.in-Some.is inv.unwatched in
    record {
      falls = inv.falls;
      ready = inv.ready;
      unwatched = unwatched_if_over c.args.indexed.now w group at (watch_at made at).before unwatched.0 unwatched.2
          (λ start is from. c.counts.ensures c.if-counts.false start (ap (λ (xs : List Watch). since_of w.since (watch_at xs at).operator) same ∙ is) from)
          (subst (λ (xs : List Watch). IsLastBelow w.made at group (watch_at xs at).before) (sym same)
          (subst (λ (n : ℕ). IsLastBelow w.made at n (watch_at w.made at).before) unwatched.1 (inv.ready.watched.chained.of_watches at unwatched.0)));
      still = inv.still;
    }
