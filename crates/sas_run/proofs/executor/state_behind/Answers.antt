-- The operators that were made are the first of the numbers.
use Rattle.sas_run.proofs.Imports.{List, ℕ, None, Some, start_of}
use Rattle.sas_run.proofs.MadeSteps.{numbered_far}
use Rattle.sas_run.proofs.executor.state_behind.Goals as goal

pub returns-in-None-clause-state : goal.returns-in-None-clause-state
returns-in-None-clause-state g c =
    let p = c.args.layered.now in
    let plan = c.args.plan.now in
    let start : List ℕ = start_of p plan.start.now in
    let made = c.make_steps.ensures.made in
    numbered_far p start plan.operators.now made.operators c.make_steps.new.state None made.makes (rw c.in-None.is at made.ends)

pub returns-in-Some-clause-state : goal.returns-in-Some-clause-state
returns-in-Some-clause-state g c =
    let p = c.args.layered.now in
    let plan = c.args.plan.now in
    let start : List ℕ = start_of p plan.start.now in
    let made = c.make_steps.ensures.made in
    numbered_far p start plan.operators.now made.operators c.make_steps.new.state (Some c.in-Some.field-0) made.makes (rw c.in-Some.is at made.ends)
