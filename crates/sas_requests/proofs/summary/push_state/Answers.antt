use Rattle.sas_requests.proofs.Imports.{arith, initial_all, initial_next}
use Rattle.sas_requests.proofs.summary.push_state.Goals as goal

pub loop-var-preserved : goal.loop-var-preserved
loop-var-preserved g c = initial_next _ _ _ _ _ _ _ c.loop-var-test.true c.loop-var.invariant c.push_summary_fact.ensures

pub returns : goal.returns
returns g c = search (arith, initial_all)
