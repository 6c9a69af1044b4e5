-- The two effects, behind the step and the operator.
use Rattle.sas_plan_reasons.proofs.Imports.{arith}
use Rattle.sas_plan_reasons.proofs.faults.conflicting.Goals as goal

pub returns : goal.returns
returns g c = search (arith)
