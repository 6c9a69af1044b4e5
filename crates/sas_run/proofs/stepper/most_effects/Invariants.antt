-- No operator so far has more effects.
use Rattle.sas_run.proofs.Imports.{ℕ, ◌<◌, ◌≤◌, length, operator_at}
use Rattle.sas_run.proofs.stepper.most_effects.Given as goal

abbrev pub invariant-loop-operator : goal.invariant-loop-operator
invariant-loop-operator g l = (other : ℕ) → other < l.operator → length (operator_at l.task other).effects ≤ l.most
