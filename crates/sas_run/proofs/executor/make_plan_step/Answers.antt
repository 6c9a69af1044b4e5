-- The fault of an applicable operator is a conflict.
use Rattle.sas_run.proofs.Imports.{refl, operator_at}
use Rattle.sas_run.proofs.NextStates.{fault_is_conflict}
use Rattle.sas_run.proofs.executor.make_plan_step.Goals as goal

pub returns-in-Err-clause-makes : goal.returns-in-Err-clause-makes
returns-in-Err-clause-makes g c =
    let o = operator_at c.args.layered.now c.in-Found.operator in
    let failed = c.in-Err.ensures.steps in
    ((refl, c.in-Found.ensures.means, fault_is_conflict c.args.state.now o c.in-Err.field-0 c.in-Found.ensures.possible.1 failed.0), failed.1)
