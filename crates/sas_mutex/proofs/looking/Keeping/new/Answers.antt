-- At first the family contains all groups that may be exclusive, with room for all that may be
-- removed.
use Rattle.sas_mutex.proofs.Imports.{length, arith}
use Rattle.sas_mutex.proofs.Counting.{count_within}
use Rattle.sas_mutex.proofs.VerdictsSoFar.{candidates_from}
use Rattle.sas_mutex.proofs.Supporting.{none_are}
use Rattle.sas_mutex.proofs.looking.Keeping.new.Goals as goal

pub returns-clause-idle : goal.returns-clause-idle
returns-clause-idle g c = search (arith, count_within, length, none_are)

pub returns-clause-candidates : goal.returns-clause-candidates
returns-clause-candidates g c = candidates_from _ c.args.verdicts.now c.in_ok-family.family.kept c.requires c.in_ok-family.ensures.exclusive
