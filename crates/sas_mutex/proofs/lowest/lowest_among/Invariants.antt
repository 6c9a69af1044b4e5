-- The lowest of the effects so far that may set another fact of the group.
use Rattle.sas_mutex.proofs.Imports.{IsNotedAt, Contains, take, IsLowestPartner}
use Rattle.sas_mutex.proofs.lowest.lowest_among.Given as goal

abbrev pub invariant-loop-other : goal.invariant-loop-other
invariant-loop-other g l = record {
  notes : IsNotedAt l.firing l.kept l.recorded;
  lowest : IsLowestPartner l.firing l.kept l.group (Contains (take l.other-index l.effects)) l.lowest;
}
