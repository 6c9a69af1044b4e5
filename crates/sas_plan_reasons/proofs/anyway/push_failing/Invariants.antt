-- The lines of the steps so far.
use Rattle.sas_plan_reasons.proofs.Imports.{◌≡◌, ◌++◌, take, map, LaterFailure}
use Rattle.sas_plan_reasons.proofs.anyway.push_failing.Given as goal

abbrev pub invariant-loop-step : goal.invariant-loop-step
invariant-loop-step l = l.lines ≡ l.initial.lines ++ map LaterFailure (take l.step-index l.steps)
