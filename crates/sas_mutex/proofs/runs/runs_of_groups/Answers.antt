-- One more group has its runs.
use Rattle.sas_mutex.proofs.Imports.{below_more, arith, get_or_append_left, get_or_push, length_push, holds_at, common_steps}
use Rattle.sas_mutex.proofs.runs.runs_of_groups.Goals as goal

pub runs_in-requires : goal.runs_in-requires
runs_in-requires g c = grind (arith, common_steps, holds_at)

pub loop-group-preserved : goal.loop-group-preserved
loop-group-preserved g c = grind (arith, common_steps, length_push, below_more, get_or_append_left, get_or_push)
