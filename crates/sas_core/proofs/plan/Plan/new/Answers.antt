-- A step that isn't a name was found, so not every step is a name.
use Rattle.std.proofs.Common.{arith}
use Rattle.std.proofs.lemmas.Grind.{common_steps}
use Rattle.sas_core.proofs.Imports.{false≢true}
use Rattle.sas_core.proofs.BadNames.{bad-not_names}
use Rattle.sas_core.proofs.plan.Plan.new.Goals as goal

pub returns-in-Some-clause-named : goal.returns-in-Some-clause-named
returns-in-Some-clause-named c = grind (arith, common_steps, false≢true, bad-not_names)
