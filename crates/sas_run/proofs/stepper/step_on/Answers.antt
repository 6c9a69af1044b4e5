-- The effects are applied, and the result is settled.
use Rattle.sas_run.proofs.Imports.{operator_at}
use Rattle.sas_run.proofs.NextStates.{effects_basic, step_from_applied}
use Rattle.sas_run.proofs.stepper.step_on.Goals as goal

pub returns-clause-steps : goal.returns-clause-steps
returns-clause-steps g c =
    let p = c.args.layered.now in
    step_from_applied p c.args.state.now (operator_at p c.args.operator) _ c.settle.new.state
    (effects_basic p c.args.operator c.requires.prepared.layered c.requires.operator) c.in_ok-apply.ensures.applies c.settle.ensures.settles
