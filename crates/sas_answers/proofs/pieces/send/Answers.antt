use Rattle.sas_answers.proofs.Imports.{rules}
use Rattle.sas_answers.proofs.Putting.{breaks_at}
use Rattle.sas_answers.proofs.pieces.send.Goals as goal

pub returns-in-Err-clause-short : goal.returns-in-Err-clause-short
returns-in-Err-clause-short g c = breaks_at _ _ _ _ _ _ c.in-Err.ensures.short (search rules)
