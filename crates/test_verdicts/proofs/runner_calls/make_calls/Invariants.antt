use Rattle.sas_core.specs.Variables.{IsState}
use Rattle.test_verdicts.proofs.runner_calls.make_calls.Given as goal

-- it is still a state of the task
abbrev pub invariant-loop-call : goal.invariant-loop-call
invariant-loop-call g l = IsState l.runner.variables l.state
