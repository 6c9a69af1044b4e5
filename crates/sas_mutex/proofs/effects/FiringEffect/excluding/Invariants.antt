-- The fact contradicts those so far, but those on the variable that is noted, which is that of the effect.
use Rattle.sas_mutex.proofs.Imports.{◌≡◌, ◌≢◌, ℕ, ◌<◌, Some, get_or, Fact, Contradict, IsKept}
use Rattle.sas_mutex.proofs.effects.FiringEffect.excluding.Given as goal

abbrev pub invariant-loop-other : goal.invariant-loop-other
invariant-loop-other g l = record {
  exclude : (k : ℕ) (d : Fact) → k < l.other-index → l.var ≢ Some (get_or l.other-items k d).var
      → Contradict (IsKept l.self.task l.kept) l.fact (get_or l.other-items k d);
  on : (v : ℕ) → l.var ≡ Some v → v ≡ l.self-inside.change.var;
}
