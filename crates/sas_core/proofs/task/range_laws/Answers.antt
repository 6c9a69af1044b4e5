-- Section by section.
use Rattle.sas_core.proofs.ChecksAreRules.{checks_are_the_rules}
use Rattle.sas_core.proofs.task.range_laws.Goals as goal

pub returns : goal.returns
returns c = checks_are_the_rules
