-- The chain of one operator more is grouped, if it is long.
use Rattle.std.proofs.Common.{arith}
use Rattle.std.proofs.lemmas.Grind.{common_steps}
use Rattle.sas_run.proofs.long_chains.LongChains.of_task.Goals as goal

pub loop-first-preserved : goal.loop-first-preserved
loop-first-preserved g c = grind (arith, common_steps)
