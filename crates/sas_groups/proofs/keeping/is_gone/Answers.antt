-- The fact would remain.
use Rattle.sas_groups.proofs.Imports.{arith, common_steps}
use Rattle.sas_groups.proofs.Effects.{known_same}
use Rattle.sas_groups.proofs.Iff.{iff_other, iff_not}
use Rattle.sas_groups.proofs.keeping.is_gone.Goals as goal

pub returns-else-clash : goal.returns-else-clash
returns-else-clash g c = grind (arith, common_steps, known_same, iff_other, iff_not)
