-- One more group is removed.
use Rattle.sas_mutex.proofs.Imports.{arith, length-set, All-get_or, each_more, common_steps}
use Rattle.sas_mutex.proofs.SetFacts.{at_item}
use Rattle.sas_mutex.proofs.Supporting.{out_still, out_now, out_less}
use Rattle.sas_mutex.proofs.family.take_out.Goals as goal

pub set-requires : goal.set-requires
set-requires c = grind (arith, common_steps, All-get_or)

pub loop-group-preserved : goal.loop-group-preserved
loop-group-preserved c = grind (arith, common_steps, All-get_or, length-set, each_more, out_still, out_now, out_less)

pub returns : goal.returns
returns c = grind (arith, common_steps, at_item)
