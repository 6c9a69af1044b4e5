-- The given values are those that the effects so far write.
use Rattle.sas_run.proofs.Imports.{◌≡◌, ℕ, take, get_or, operator_at, value_after, IsGivenTo, written}
use Rattle.sas_run.proofs.steps.give_last.Given as goal

abbrev pub invariant-loop-effect : goal.invariant-loop-effect
invariant-loop-effect g l = record {
  on_effects : IsGivenTo l.task (operator_at l.task l.operator) l.given;
  same : (var : ℕ) → value_after l.given l.state var ≡ get_or (written l.state (take l.effect (operator_at l.task l.operator).effects) l.state) var 0;
}
