-- This fact is chosen, or the previous choice.
use Rattle.sas_mutex.proofs.Imports.{Contains-get_or, arith, common_steps}
use Rattle.sas_mutex.proofs.notes.widest_of.Goals as goal

pub loop-fact-preserved : goal.loop-fact-preserved
loop-fact-preserved c = grind (arith, common_steps, Contains-get_or)
