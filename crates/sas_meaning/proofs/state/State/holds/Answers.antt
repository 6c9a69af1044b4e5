use Rattle.sas_meaning.proofs.Imports.{arith, elements}
use Rattle.sas_meaning.proofs.state.State.holds.Goals as goal

pub returns-in-None : goal.returns-in-None
returns-in-None c = grind (arith, elements)
