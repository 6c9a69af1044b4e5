-- The data for settling layers stay valid.
use Rattle.sas_axioms.proofs.Imports.{arith}
use Rattle.sas_axioms.proofs.firing.LayerSettler.follow.Goals as goal

pub returns-clause-prepared : goal.returns-clause-prepared
returns-clause-prepared g c = search (arith)
