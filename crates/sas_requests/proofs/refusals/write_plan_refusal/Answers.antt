use Rattle.sas_requests.proofs.Imports.{arith}
use Rattle.sas_requests.proofs.FileEnds.{writes_plainly}
use Rattle.sas_requests.proofs.refusals.write_plan_refusal.Goals as goal

pub returns-clause-answers : goal.returns-clause-answers
returns-clause-answers g c = search (arith, writes_plainly)
