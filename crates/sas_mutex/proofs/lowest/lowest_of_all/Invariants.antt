-- None of the effects so far may set another fact of the group.
use Rattle.sas_mutex.proofs.Imports.{ℕ, ◌<◌, IsNotedAt, NotBothAt}
use Rattle.sas_mutex.proofs.lowest.lowest_of_all.Given as goal

abbrev pub invariant-loop-other : goal.invariant-loop-other
invariant-loop-other g l = record {
  notes : IsNotedAt l.firing l.kept l.recorded;
  below : (k : ℕ) → k < l.other → NotBothAt l.firing l.kept k l.group;
}
