-- A single fact doesn't clash.
use Rattle.sas_mutex.proofs.Imports.{iff_no, IsKept}
use Rattle.sas_mutex.proofs.KnownFacts.{few_apart}
use Rattle.sas_mutex.proofs.recorded.facts_clash.Goals as goal

pub returns-then-facts-lt2-clause-is : goal.returns-then-facts-lt2-clause-is
returns-then-facts-lt2-clause-is g c = iff_no (few_apart (IsKept c.args.indexed.now c.args.kept.now) c.args.facts.now c.if-facts-lt2.true)
