use Rattle.sas_requests.proofs.JudgeLaws.{each_is_that_of_plan, refuses_as_plan, judge_output}
use Rattle.sas_requests.proofs.SamePlans.{same_plans}
use Rattle.sas_requests.proofs.laws.judge_laws.Goals as goal

pub returns-clause-each : goal.returns-clause-each
returns-clause-each c = each_is_that_of_plan

pub returns-clause-refuses : goal.returns-clause-refuses
returns-clause-refuses c = refuses_as_plan

pub returns-clause-outputs : goal.returns-clause-outputs
returns-clause-outputs c = λ reasons labels b cs. judge_output labels b cs reasons

pub returns-clause-same : goal.returns-clause-same
returns-clause-same c = same_plans
