-- The verdicts consider the operators so far.
use Rattle.sas_mutex.proofs.Imports.{◌≡◌, length, AreFoundSoFar, IsIdle}
use Rattle.sas_mutex.proofs.joint.find_breaking.Given as goal

abbrev pub invariant-loop-operator : goal.invariant-loop-operator
invariant-loop-operator g l = record {
  verdicts : AreFoundSoFar l.indexed l.operator 0 l.keeping.family l.found;
  as_many : length l.found.failures ≡ length l.fn.found.failures;
  idle : IsIdle l.indexed l.keeping;
}
