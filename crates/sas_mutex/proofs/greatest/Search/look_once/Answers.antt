-- The operator depends on the groups that it now watches, or is loose.
use Rattle.sas_mutex.proofs.Imports.{◌≡◌, ℕ, ◌<◌, ◌^◌, Bool, Option, Some, None, List, length, refl, set, sym, ap, subst, ◌∙◌, append-nil, All, All-nil, arith, common_steps, same_Some, Watches, AreChained, HasWatchFrom, RestsBy, WatchesMore}
use Rattle.sas_mutex.proofs.Watched.{rests_by, watched_anew}
use Rattle.sas_mutex.proofs.greatest.Search.look_once.Goals as goal
use Rattle.sas_mutex.proofs.greatest.Search.look_once.Goals.{else-alone-via-then-alone+else-watch_all, else-alone-via-else-alone}

-- no watch is made
no_more : (operator : ℕ) (kept : List Bool) (w : Watches) → AreChained w.made w.last → length w.made < 2 ^ 32 → WatchesMore operator kept w w
no_more operator kept w chained few = grind (arith, common_steps, append-nil, All-nil)

pub watch_all-requires-clause-one_each : goal.watch_all-requires-clause-one_each
watch_all-requires-clause-one_each g c = c.requires.ready.watched.each_group ∙ sym c.look_until_quiet-alone.ensures.idle.room.one_each

pub returns-then-watch_all-clause-ready : goal.returns-then-watch_all-clause-ready
returns-then-watch_all-clause-ready g c =
    let p = c.args.indexed.now in
    let w = c.args.self.now.watches in
    let family = c.look_until_quiet-alone.new.keeping.family in
    let now = c.watch_all.new.self in
    let turn = c.look_until_quiet-alone.ensures in
    let more = c.watch_all.ensures.more in
    let start = c.len-start.result in
    record {
      watched = watched_anew p c.args.self.now.keeping.family family w now.made now.last c.set.new.self now.room c.args.operator (Some start)
          turn.falls turn.idle.room.one_each c.requires.operator c.requires.ready.watched more.made more.chained more.one_each more.few
          (c.set.ensures ∙ ap (λ (xs : List (Option ℕ)). set xs c.args.operator (Some start)) more.since)
          (λ from is. subst (RestsBy p family.kept now.made c.args.operator) (sym c.len-start.ensures ∙ same_Some start from is)
          (rests_by p family.kept now.made c.args.operator (length w.made) family.supports (turn.alone c.if-alone.true)
          (subst (All (HasWatchFrom now.made c.args.operator (length w.made))) c.as_slice.ensures (c.watch_all.ensures.all c.if-watch_all.true))));
      idle = turn.idle;
    }

pub returns-clause-ready : goal.returns-clause-ready
returns-clause-ready g c =
    let w = c.args.self.now.watches in
    let family = c.look_until_quiet-alone.new.keeping.family in
    let now = c.else-alone.self.watches in
    let turn = c.look_until_quiet-alone.ensures in
    let more : WatchesMore c.args.operator family.kept w now = elim c.else-alone.branch [
      | else-alone-via-then-alone+else-watch_all v ↦ rw v.self-is v.watch_all.ensures.more
      | else-alone-via-else-alone v ↦ rw v.self-is (no_more c.args.operator family.kept w c.requires.ready.watched.chained c.requires.ready.watched.few)
    ] in
    let same : c.else-alone.self.keeping ≡ c.look_until_quiet-alone.new.keeping = elim c.else-alone.branch [
      | else-alone-via-then-alone+else-watch_all v ↦ rw v.self-is refl
      | else-alone-via-else-alone v ↦ rw v.self-is refl
    ] in
    rw same record {
      watched = watched_anew c.args.indexed.now c.args.self.now.keeping.family family w now.made now.last c.set-2.new.self now.room c.args.operator None
          turn.falls turn.idle.room.one_each c.requires.operator c.requires.ready.watched more.made more.chained more.one_each more.few
          (c.set-2.ensures ∙ ap (λ (xs : List (Option ℕ)). set xs c.args.operator None) more.since)
          (λ from is. absurd (let none : None ≡ Some from = is in cc));
      idle = turn.idle;
    }

pub returns-clause-rest : goal.returns-clause-rest
returns-clause-rest g c = elim c.else-alone.branch [
  | else-alone-via-then-alone+else-watch_all v ↦ rw v.self-is c.look_until_quiet-alone.ensures.rest
  | else-alone-via-else-alone v ↦ rw v.self-is c.look_until_quiet-alone.ensures.rest
]
