-- None of the effects so far sets another fact of the group.
use Rattle.sas_mutex.proofs.Imports.{ℕ, ◌<◌, get_or, IsNotedAt, IsApartAt}
use Rattle.sas_mutex.proofs.effects.FiringEffect.is_single_on.Given as goal

abbrev pub invariant-loop-other : goal.invariant-loop-other
invariant-loop-other g l = record {
  notes : IsNotedAt l.self l.kept l.recorded;
  apart : (k : ℕ) → k < l.other-index → IsApartAt l.self l.kept l.group (get_or l.effects k 0);
}
