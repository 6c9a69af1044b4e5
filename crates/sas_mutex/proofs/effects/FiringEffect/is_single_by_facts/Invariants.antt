-- No effect on a variable of the facts so far sets another fact of the group.
use Rattle.sas_mutex.proofs.Imports.{ℕ, ◌<◌, get_or, Fact, IsNotedAt, IsSingleOn}
use Rattle.sas_mutex.proofs.effects.FiringEffect.is_single_by_facts.Given as goal

abbrev pub invariant-loop-place : goal.invariant-loop-place
invariant-loop-place g l = record {
  notes : IsNotedAt l.self l.kept l.recorded;
  single : (k : ℕ) (d : Fact) → k < l.place → IsSingleOn l.self l.kept l.group (get_or l.facts k d).var;
}
