-- Each law is a lemma.
use Rattle.sas_meaning.proofs.Imports.{arith}
use Rattle.sas_meaning.proofs.FastDownwardSteps.{writes, exists_there, is_one_there, step_there, step_here, step_exists, reaches, no_more}
use Rattle.sas_meaning.proofs.steps.step_laws.Goals as goal

pub returns : goal.returns
returns c = search (arith, step_exists, exists_there, is_one_there, step_there, step_here, reaches, no_more, writes)
