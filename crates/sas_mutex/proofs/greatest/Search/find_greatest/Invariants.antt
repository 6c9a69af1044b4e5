-- All operators that watched a removed group were looked at again.
use Rattle.sas_mutex.proofs.Imports.{◌-◌, length, Falls, IsReady, FallenAreUnwatched}
use Rattle.sas_mutex.proofs.greatest.Search.find_greatest.Given as goal

abbrev pub invariant-loop-before : goal.invariant-loop-before
invariant-loop-before g l = record {
  falls : Falls l.indexed l.fn.self.keeping.family l.self.keeping.family;
  ready : IsReady l.indexed l.self;
  unwatched : FallenAreUnwatched l.self.keeping.family.fallen.items (length l.self.keeping.family.fallen.items) l.self.watches;
}

abbrev pub decreases-loop-before : goal.decreases-loop-before
decreases-loop-before g l = length l.indexed.groups - length l.self.keeping.family.fallen.items
