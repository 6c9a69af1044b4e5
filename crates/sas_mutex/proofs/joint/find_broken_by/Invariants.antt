-- The verdicts consider the effects so far.
use Rattle.sas_mutex.proofs.Imports.{◌≡◌, length, AreFoundSoFar, IsIdle}
use Rattle.sas_mutex.proofs.joint.find_broken_by.Given as goal

abbrev pub invariant-loop-effect : goal.invariant-loop-effect
invariant-loop-effect g l = record {
  verdicts : AreFoundSoFar l.indexed l.operator l.effect l.keeping.family l.found;
  as_many : length l.found.failures ≡ length l.fn.found.failures;
  idle : IsIdle l.indexed l.keeping;
}
