-- Each law is proved as a lemma.
use Rattle.sas_run.proofs.NumberVerdicts.{some_verdict_by_numbers, numbers_have_no_fault, fault_by_numbers_is_one}
use Rattle.sas_run.proofs.RestOfRun.{rest_is_valid}
use Rattle.sas_run.proofs.laws.number_laws.Goals as goal

pub returns-clause-some : goal.returns-clause-some
returns-clause-some c = some_verdict_by_numbers

pub returns-clause-not_both : goal.returns-clause-not_both
returns-clause-not_both c = numbers_have_no_fault

pub returns-clause-fault_one : goal.returns-clause-fault_one
returns-clause-fault_one c = fault_by_numbers_is_one

pub returns-clause-rest : goal.returns-clause-rest
returns-clause-rest c = rest_is_valid
