-- The lines so far were pushed.
use Rattle.sas_plan_reasons.proofs.Imports.{Pushes, initial_texts}
use Rattle.sas_plan_reasons.proofs.tracing.push_initial_lines.Given as goal

abbrev pub invariant-loop-var : goal.invariant-loop-var
invariant-loop-var g l = Pushes g.W.Write.contents l.fn.sink l.sink (initial_texts l.task.variables l.state l.var)
