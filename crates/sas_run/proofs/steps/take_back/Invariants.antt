-- The given values of the variables of the effects so far are removed.
use Rattle.sas_run.proofs.Imports.{◌≡◌, ℕ, ◌<◌, None, operator_at, effect_at, given_to, IsGivenTo}
use Rattle.sas_run.proofs.steps.take_back.Given as goal

abbrev pub invariant-loop-effect : goal.invariant-loop-effect
invariant-loop-effect g l = record {
  on_effects : IsGivenTo l.task (operator_at l.task l.operator) l.given;
  taken : (k : ℕ) → k < l.effect → given_to l.given (effect_at (operator_at l.task l.operator) k).var ≡ None;
}
