use Rattle.sas_requests.proofs.Imports.{arith, pushes_item}
use Rattle.sas_requests.proofs.Summaries.{goal_text, goal_all}
use Rattle.sas_requests.proofs.summary.push_goal.Goals as goal

pub loop-fact-preserved : goal.loop-fact-preserved
loop-fact-preserved g c = pushes_item _ (goal_text _) _ _ _ _ _ _ c.loop-fact-test.true c.loop-fact.invariant c.push_summary_fact.ensures

pub returns : goal.returns
returns g c = search (arith, goal_all)
