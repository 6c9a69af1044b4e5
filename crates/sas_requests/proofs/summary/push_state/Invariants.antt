use Rattle.sas_requests.proofs.Imports.{Pushes, initial_texts}
use Rattle.sas_requests.proofs.summary.push_state.Given as goal

-- the lines of the variables so far were pushed
abbrev pub invariant-loop-var : goal.invariant-loop-var
invariant-loop-var g l = Pushes g.W.Write.contents l.fn.sink l.sink (initial_texts l.outline.variables l.value-items l.var)
