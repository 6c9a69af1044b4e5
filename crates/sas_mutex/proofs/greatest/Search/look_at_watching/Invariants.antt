-- All operators that watched one of the removed groups so far were looked at again.
use Rattle.sas_mutex.proofs.Imports.{◌-◌, ◌≤◌, length, Falls, IsReady, FallenAreUnwatched}
use Rattle.sas_mutex.proofs.greatest.Search.look_at_watching.Given as goal

abbrev pub invariant-loop-next : goal.invariant-loop-next
invariant-loop-next g l = record {
  within : l.next ≤ length l.self.keeping.family.fallen.items;
  falls : Falls l.indexed l.fn.self.keeping.family l.self.keeping.family;
  ready : IsReady l.indexed l.self;
  unwatched : FallenAreUnwatched l.self.keeping.family.fallen.items l.next l.self.watches;
}

abbrev pub decreases-loop-next : goal.decreases-loop-next
decreases-loop-next g l = length l.indexed.groups - l.next
