-- After the next watch of the group, no watch of the group is valid any more.
use Rattle.sas_mutex.proofs.Imports.{ℕ, ◌+◌, Option, Some, None, Falls, IsReady, StayUnwatched}
use Rattle.sas_mutex.proofs.Watched.{IsUnwatchedBehind}
use Rattle.sas_mutex.proofs.greatest.Search.look_at_watchers.Given as goal

abbrev pub invariant-loop-next : goal.invariant-loop-next
invariant-loop-next g l = record {
  falls : Falls l.indexed l.fn.self.keeping.family l.self.keeping.family;
  ready : IsReady l.indexed l.self;
  unwatched : IsUnwatchedBehind l.self.watches l.group l.next;
  still : StayUnwatched l.fn.self.keeping.family.kept l.fn.self.watches l.self.watches;
}

abbrev watches_left : Option ℕ → ℕ
watches_left None = 0
watches_left (Some place) = place + 1

abbrev pub decreases-loop-next : goal.decreases-loop-next
decreases-loop-next g l = watches_left l.next
