-- The operators so far are at rest, if they are loose.
use Rattle.sas_mutex.proofs.Imports.{length, Falls, newly, IsReady, FallenAreUnwatched, AreLooseAtRest}
use Rattle.sas_mutex.proofs.greatest.Search.look_at_loose.Given as goal

abbrev pub invariant-loop-operator : goal.invariant-loop-operator
invariant-loop-operator g l = record {
  falls : Falls l.indexed l.fn.self.keeping.family l.self.keeping.family;
  rest : AreLooseAtRest l.indexed l.self.keeping.family.kept (newly l.fn.self.keeping.family l.self.keeping.family) l.self.watches l.operator;
  ready : IsReady l.indexed l.self;
  unwatched : FallenAreUnwatched l.fn.self.keeping.family.fallen.items (length l.fn.self.keeping.family.fallen.items) l.self.watches;
}
