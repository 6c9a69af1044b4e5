-- The operators that are left to be searched.
use Rattle.sas_run.proofs.Imports.{◌+◌, length, BeginsLower}
use Rattle.sas_run.proofs.LongSearch.{Left}
use Rattle.sas_run.proofs.long_chains.LongChains.later_applicable.Given as goal

abbrev pub invariant-loop-next : goal.invariant-loop-next
invariant-loop-next g l = record {
  left : Left l.task l.state l.fn.first l.lists.0.now l.lists.1.now;
  lower : BeginsLower l.lists.0.now l.lists.1.now;
}

abbrev pub decreases-loop-next : goal.decreases-loop-next
decreases-loop-next g l = length l.lists.0.now + length l.lists.1.now
