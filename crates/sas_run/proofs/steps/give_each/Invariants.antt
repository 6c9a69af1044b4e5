-- The given values are exactly those of the effects so far.
use Rattle.sas_run.proofs.Imports.{operator_at, IsGiven}
use Rattle.sas_run.proofs.steps.give_each.Given as goal

abbrev pub invariant-loop-effect : goal.invariant-loop-effect
invariant-loop-effect g l =
    IsGiven l.task l.state (operator_at l.task l.operator) l.effect l.given
