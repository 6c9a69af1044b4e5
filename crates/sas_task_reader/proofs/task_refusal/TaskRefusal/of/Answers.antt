use Rattle.sas_task_reader.proofs.Imports.{refl}
use Rattle.sas_task_reader.proofs.Reasons.{reported}
use Rattle.sas_task_reader.proofs.task_refusal.TaskRefusal.of.Goals as goal

pub returns-clause-reason : goal.returns-clause-reason
returns-clause-reason g c = λ accepted text stands kept. reported _ accepted text c.args.refused.fault.kind c.args.refused.machine _ _ c.mark-mark.ensures c.word_of-word.ensures.value c.word_of-word.ensures.another (λ line. line.now) c.last_line-last.result c.args.refused.found _ refl refl refl c.count-count.ensures c.last_line-last.ensures.some c.last_line-last.ensures.none c.lacks_line_end.ensures stands kept
