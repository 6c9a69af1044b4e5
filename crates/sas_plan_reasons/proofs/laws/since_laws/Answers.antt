-- Each law is proved as a lemma.
use Rattle.sas_plan_reasons.proofs.Imports.{arith}
use Rattle.sas_plan_reasons.proofs.Since.{some_since, one_since, same_since}
use Rattle.sas_plan_reasons.proofs.laws.since_laws.Goals as goal

pub returns : goal.returns
returns c = search (arith, some_since, one_since, same_since)
