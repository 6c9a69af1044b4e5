-- The variables of the goal have values in the state.
use Rattle.sas_run.proofs.Ranges.{goal_in_state}
use Rattle.sas_run.proofs.runner.Runner.goal.Goals as goal

pub first_missed-requires : goal.first_missed-requires
first_missed-requires g c =
    let p = c.self.inside.layered.now in
    rw (c.goal.ensures, c.task.ensures.task) (goal_in_state p c.args.state.now c.task.ensures.well_ranged (rw c.self.view_is c.requires))
