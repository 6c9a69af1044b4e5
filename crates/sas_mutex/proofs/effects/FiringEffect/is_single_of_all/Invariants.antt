-- None of the effects so far sets another fact of the group.
use Rattle.sas_mutex.proofs.Imports.{ℕ, ◌<◌, IsNotedAt, NotBothAt}
use Rattle.sas_mutex.proofs.effects.FiringEffect.is_single_of_all.Given as goal

abbrev pub invariant-loop-other : goal.invariant-loop-other
invariant-loop-other g l = record {
  notes : IsNotedAt l.self l.kept l.recorded;
  single : (k : ℕ) → k < l.other → NotBothAt l.self l.kept k l.group;
}
