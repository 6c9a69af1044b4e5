-- None of the changes so far sets another fact of the group.
use Rattle.sas_mutex.proofs.Imports.{ℕ, ◌<◌, NotBothAt}
use Rattle.sas_mutex.proofs.effects.FiringEffect.is_single_of_changes.Given as goal

abbrev pub invariant-loop-change : goal.invariant-loop-change
invariant-loop-change g l = (k : ℕ) → k < l.change-index → NotBothAt l.self l.kept k l.group
