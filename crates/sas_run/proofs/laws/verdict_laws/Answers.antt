-- Each law is proved as a lemma.
use Rattle.sas_run.proofs.PlanVerdicts.{some_verdict, valid_has_no_fault, valid_is_one, fault_is_one}
use Rattle.sas_run.proofs.PlanStates.{leads_to_reachable, last_is_reachable}
use Rattle.sas_run.proofs.Runs.{some_run, one_run}
use Rattle.sas_run.proofs.NumberVerdicts.{valid_by_numbers}
use Rattle.sas_run.proofs.laws.verdict_laws.Goals as goal

pub returns-clause-some : goal.returns-clause-some
returns-clause-some c = some_verdict

pub returns-clause-not_both : goal.returns-clause-not_both
returns-clause-not_both c = valid_has_no_fault

pub returns-clause-valid_one : goal.returns-clause-valid_one
returns-clause-valid_one c = valid_is_one

pub returns-clause-fault_one : goal.returns-clause-fault_one
returns-clause-fault_one c = fault_is_one

pub returns-clause-leads : goal.returns-clause-leads
returns-clause-leads c = leads_to_reachable

pub returns-clause-reached : goal.returns-clause-reached
returns-clause-reached c = last_is_reachable

pub returns-clause-some_run : goal.returns-clause-some_run
returns-clause-some_run c = some_run

pub returns-clause-one_run : goal.returns-clause-one_run
returns-clause-one_run c = one_run

pub returns-clause-by_numbers : goal.returns-clause-by_numbers
returns-clause-by_numbers c = valid_by_numbers
