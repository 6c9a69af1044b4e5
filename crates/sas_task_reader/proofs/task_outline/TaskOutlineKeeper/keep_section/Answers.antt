use Rattle.sas_task_reader.proofs.Outlines.{seen_variable}
use Rattle.sas_task_reader.proofs.task_outline.TaskOutlineKeeper.keep_section.Goals as goal

pub returns-in-Variable : goal.returns-in-Variable
returns-in-Variable g c =
    rw c.in-Variable.is (seen_variable c.self.inside.seen c.args.self.now c.keep_section.new.self c.args.ranges.now c.args.bytes.now c.keep_section.result c.self.view_is (rw c.in-Variable.is at c.keep_section.ensures))
