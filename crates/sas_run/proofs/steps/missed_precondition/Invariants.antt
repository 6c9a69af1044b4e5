-- The preconditions so far hold.
use Rattle.sas_run.proofs.Imports.{◌≡◌, ◌++◌, slice_index, operator_at, AllHold, preconditions}
use Rattle.sas_run.proofs.steps.missed_precondition.Given as goal

abbrev pub invariant-loop-fact : goal.invariant-loop-fact
invariant-loop-fact g l = record {
  left : preconditions (operator_at l.layered l.operator) ≡ l.yielded ++ l.fact-iterator;
  hold : AllHold (slice_index l.state) l.yielded;
}
