use Rattle.sas_requests.proofs.Imports.{arith, elements}
use Rattle.sas_requests.proofs.file_refusal.refusal_text.Goals as goal

pub returns : goal.returns
returns c = grind (arith, elements)
