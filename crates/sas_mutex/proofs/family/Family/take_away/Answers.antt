-- There is room for one more removed group, since the family has one less.
use Rattle.sas_mutex.proofs.Imports.{arith, rules}
use Rattle.sas_mutex.proofs.Counting.{count_fell}
use Rattle.sas_mutex.proofs.family.Family.take_away.Goals as goal

pub unwrap-requires : goal.unwrap-requires
unwrap-requires c = search (arith, count_fell)

pub returns-clause-kept : goal.returns-clause-kept
returns-clause-kept c = search rules
