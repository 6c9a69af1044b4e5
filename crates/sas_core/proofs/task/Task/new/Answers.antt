-- All checks pass if and only if the parts are well ranged.
use Rattle.std.proofs.Common.{arith}
use Rattle.std.proofs.lemmas.Grind.{common_steps}
use Rattle.sas_core.proofs.Imports.{refl, sym, false≢true}
use Rattle.sas_core.proofs.ChecksAreRules.{checks_are_the_rules}
use Rattle.sas_core.proofs.task.Task.new.Goals as goal

pub invariant_of-result : goal.invariant_of-result
invariant_of-result c = (checks_are_the_rules c.args.parts).0 (sym c.in-Ok.ensures)

pub returns-in-Err-clause-well_ranged : goal.returns-in-Err-clause-well_ranged
returns-in-Err-clause-well_ranged c = grind (arith, common_steps, false≢true, checks_are_the_rules)

pub returns-in-Ok-clause-well_ranged : goal.returns-in-Ok-clause-well_ranged
returns-in-Ok-clause-well_ranged c = (λ ok. (checks_are_the_rules c.args.parts).0 (sym c.in-Ok.ensures), λ fit. refl)
