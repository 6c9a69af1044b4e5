-- None of the groups so far is in the family.
use Rattle.sas_mutex.proofs.Imports.{ℕ, ◌<◌, get_or, IsFalse, family_of}
use Rattle.sas_mutex.proofs.effects.FiringEffect.sets_one_of.Given as goal

abbrev pub invariant-loop-group : goal.invariant-loop-group
invariant-loop-group g l = (k d : ℕ) → k < l.group-index → IsFalse (family_of l.kept (get_or l.group-items k d))
