use Rattle.sas_task_reader.proofs.Imports.{on_ok_weaker}
use Rattle.sas_task_reader.proofs.TaskSteps.{led_on, notes_line}
use Rattle.sas_task_reader.proofs.task_machine.TaskMachineMachine.accept.Goals as goal

pub returns-in-Ok-clause-led : goal.returns-in-Ok-clause-led
returns-in-Ok-clause-led g c = on_ok_weaker c.keep.result (λ keeps_on before line h. led_on _ before c.args.self.now c.take.new.self _ c.keep.new.self c.in-Ok.event c.args.line.now h c.in-Ok.ensures.judges keeps_on (notes_line before c.args.self.now.judge c.take.new.self c.args.number line c.in-Ok.ensures.notes)) c.keep.ensures.kept
