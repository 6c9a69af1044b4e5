-- The basis has grown, and nothing else was changed.
use Rattle.sas_mutex.proofs.Imports.{◌≡◌, HasGrown}
use Rattle.sas_mutex.proofs.family.Family.grow_basis.Given as goal

abbrev pub invariant-loop-group : goal.invariant-loop-group
invariant-loop-group l = record {
  grown : HasGrown l.fn.self l.self;
  excluding : l.self.excluding ≡ l.fn.self.excluding;
}
