use Rattle.sas_task_reasons.proofs.Imports.{pushes_then}
use Rattle.sas_task_reasons.proofs.groups.push_group.Goals as goal

pub returns-in-Some : goal.returns-in-Some
returns-in-Some g c = rw c.in-Some.is (pushes_then _ _ _ _ _ _ c.push_verdict.ensures c.push_why.ensures)
