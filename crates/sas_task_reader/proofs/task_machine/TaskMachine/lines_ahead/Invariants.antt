-- The lines so far were accepted, and the rest is left.
use Rattle.sas_task_reader.proofs.Imports.{length, LinesAccepted, LedBy}
use Rattle.sas_task_reader.proofs.task_machine.TaskMachine.lines_ahead.Given as goal

abbrev pub invariant-loop-event : goal.invariant-loop-event
invariant-loop-event g l = LinesAccepted (LedBy g.K.Keeper.keeps) l.fn.self l.fn.bytes l.self l.lines l.rest

abbrev pub decreases-loop-event : goal.decreases-loop-event
decreases-loop-event g l = length l.rest
