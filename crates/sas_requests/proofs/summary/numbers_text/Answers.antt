use Rattle.sas_requests.proofs.Imports.{arith, common_steps}
use Rattle.sas_requests.proofs.summary.numbers_text.Goals as goal

pub returns : goal.returns
returns c = grind (arith, common_steps)
