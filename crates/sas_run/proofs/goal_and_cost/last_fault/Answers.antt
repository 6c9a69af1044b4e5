-- The variables of the goal have values in the state.
use Rattle.sas_run.proofs.Ranges.{goal_in_state}
use Rattle.sas_run.proofs.goal_and_cost.last_fault.Goals as goal

pub first_missed-requires : goal.first_missed-requires
first_missed-requires g c =
    rw (c.goal.ensures, c.task.ensures.task)
    (goal_in_state c.args.layered.now c.args.state.now c.task.ensures.well_ranged c.requires.state)
