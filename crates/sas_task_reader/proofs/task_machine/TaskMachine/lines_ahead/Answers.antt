use Rattle.sas_task_reader.proofs.Imports.{none_accepted, accepted}
use Rattle.sas_task_reader.proofs.TaskMoves.{taken_line}
use Rattle.sas_task_reader.proofs.TaskSteps.{next_line}
use Rattle.sas_task_reader.proofs.task_machine.TaskMachine.lines_ahead.Goals as goal

pub loop-event-init : goal.loop-event-init
loop-event-init g c = none_accepted _ c.args.self.now c.args.bytes.now

pub loop-event-preserved : goal.loop-event-preserved
loop-event-preserved g c =
    let l = c.loop-event in
    next_line _ c.args.self.now c.args.bytes.now l.self l.lines l.rest.now l.invariant c.take_ahead.new.self _ c.keep.new.self c.in-Some.event _ c.in-Some.behind.now
    (taken_line l.self.judge c.take_ahead.new.self l.rest.now c.in-Some.behind.now c.in-Some.event c.in-Some.ensures.some _ c.without_return-line.ensures) c.in_ok-keep.ensures.kept

pub returns : goal.returns
returns g c =
    let l = c.loop-event in
    rw c.in_default.ensures.none (accepted _ c.args.self.now c.args.bytes.now l.self l.lines l.rest.now l.invariant)
