-- The steps before this one are names, and the check shows that this one isn't.
use Rattle.std.proofs.lemmas.Grind.{common_steps}
use Rattle.sas_core.proofs.Imports.{arith}
use Rattle.sas_core.proofs.BadNames.{first_bad}
use Rattle.sas_core.proofs.plan.first_bad_name.Goals as goal

pub returns-then-not-is_name-clause-first : goal.returns-then-not-is_name-clause-first
returns-then-not-is_name-clause-first c = grind (arith, common_steps, first_bad)
