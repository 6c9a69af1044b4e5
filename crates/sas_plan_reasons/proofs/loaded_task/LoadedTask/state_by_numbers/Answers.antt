-- The start is a state, and the operators lead as far as this.
use Rattle.sas_plan_reasons.proofs.Imports.{subst, start_of, IsStart, LeadsAsFar}
use Rattle.sas_plan_reasons.proofs.loaded_task.LoadedTask.state_by_numbers.Goals as goal

pub returns-in_ok-state_behind-in-None-clause-state :
    goal.returns-in_ok-state_behind-in-None-clause-state
returns-in_ok-state_behind-in-None-clause-state g c =
    let plan = c.args.plan.now in
    let found = c.in_ok-state_behind-in-None.field-0 in
    subst (λ q. IsStart q plan.start.now × LeadsAsFar q (start_of q plan.start.now) plan.operators.now found.0 found.1) c.self.view_is
    (c.in-None.ensures.none, c.in_ok-state_behind-in-None.ensures.state)
