-- If all layer checks pass, the task is layered.
use Rattle.sas_meaning.proofs.Imports.{arith}
use Rattle.sas_meaning.proofs.LayerChecksAreRules.{checks_are_rules}
use Rattle.sas_meaning.proofs.layered.Layered.new.Goals as goal

pub invariant_of-result : goal.invariant_of-result
invariant_of-result g c = search (arith, checks_are_rules)

pub returns-in-Ok-clause-layered : goal.returns-in-Ok-clause-layered
returns-in-Ok-clause-layered g c = search (arith, checks_are_rules)
