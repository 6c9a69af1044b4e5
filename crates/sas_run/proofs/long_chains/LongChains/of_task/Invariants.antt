-- The chains so far are grouped.
use Rattle.sas_run.proofs.Imports.{AreLongChains}
use Rattle.sas_run.proofs.long_chains.LongChains.of_task.Given as goal

abbrev pub invariant-loop-first : goal.invariant-loop-first
invariant-loop-first g l = AreLongChains l.layered l.long
