-- One more operator isn't applicable.
use Rattle.sas_run.proofs.Imports.{arith, cases_eq, true≢false, operator_at}
use Rattle.sas_run.proofs.NamedAlike.{search_goes_on}
use Rattle.sas_run.proofs.choice.later_applicable.Goals as goal

pub loop-next-init : goal.loop-next-init
loop-next-init g c = search (arith, search_goes_on, operator_at)

pub loop-next-preserved : goal.loop-next-preserved
loop-next-preserved g c = search (arith, search_goes_on, cases_eq, true≢false, operator_at)
