use Rattle.sas_requests.proofs.ReasonedOutputs.{any_output, same_answer}
use Rattle.sas_requests.proofs.ShortOutputs.{short_output}
use Rattle.sas_requests.proofs.TraceLaws.{ends_as_plan}
use Rattle.sas_requests.proofs.laws.answer_laws.Goals as goal

pub returns-clause-outputs : goal.returns-clause-outputs
returns-clause-outputs c = any_output

pub returns-clause-same : goal.returns-clause-same
returns-clause-same c = same_answer

pub returns-clause-trace : goal.returns-clause-trace
returns-clause-trace c = ends_as_plan

pub returns-clause-short : goal.returns-clause-short
returns-clause-short c = short_output
