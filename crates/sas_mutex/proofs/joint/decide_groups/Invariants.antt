-- The verdicts on the groups so far consider the effect.
use Rattle.sas_mutex.proofs.Imports.{◌≡◌, length, ℕ, ◌<◌, get_or, AreFoundSoFar, ConsidersAt, IsAtEffect}
use Rattle.sas_mutex.proofs.joint.decide_groups.Given as goal

abbrev pub invariant-loop-group : goal.invariant-loop-group
invariant-loop-group g l = record {
  verdicts : AreFoundSoFar l.firing.task l.firing.operator l.firing.effect l.keeping.family l.found;
  as_many : length l.found.failures ≡ length l.fn.found.failures;
  these : (k : ℕ) → k < l.group-index → ConsidersAt l.firing l.keeping.family.kept l.found.verdicts (get_or l.groups k 0);
  at_effect : IsAtEffect l.firing l.keeping;
}
