use Rattle.sas_task_reasons.proofs.Imports.{take, text, Pushes, why_lines}
use Rattle.sas_task_reasons.proofs.groups.push_groups.Given as goal

-- the lines of the groups so far were pushed
abbrev pub invariant-loop-place : goal.invariant-loop-place
invariant-loop-place g l = Pushes g.W.Write.contents l.fn.sink l.sink (text (why_lines l.task (take l.place l.verdicts) l.reasons))
