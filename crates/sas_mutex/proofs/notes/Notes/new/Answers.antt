-- Nothing is recorded at any index.
use Rattle.sas_mutex.proofs.Imports.{length-replicate, get_or-replicate, arith, common_steps}
use Rattle.sas_mutex.proofs.notes.Notes.new.Goals as goal

pub returns : goal.returns
returns g c = grind (arith, common_steps, length-replicate, get_or-replicate)
