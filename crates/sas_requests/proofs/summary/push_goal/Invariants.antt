use Rattle.sas_requests.proofs.Imports.{take, flat_map, Pushes}
use Rattle.sas_requests.proofs.Summaries.{goal_text}
use Rattle.sas_requests.proofs.summary.push_goal.Given as goal

-- the lines of the facts so far were pushed
abbrev pub invariant-loop-fact : goal.invariant-loop-fact
invariant-loop-fact g l = Pushes g.W.Write.contents l.fn.sink l.sink (flat_map (goal_text l.outline.variables) (take l.fact-index l.fact-items))
