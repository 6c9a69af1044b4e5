use Rattle.sas_task_file.proofs.Imports.{refl, head}
use Rattle.sas_task_file.proofs.FirstWrongWords.{first_is}
use Rattle.sas_task_file.proofs.wrong_word.wrong_in_head.Goals as goal

pub returns-in-Some : goal.returns-in-Some
returns-in-Some c = first_is _ _ c.args.line.now (head c.in-Some.change.var c.in-Some.change.old c.in-Some.change.new) _ refl c.in-Some.ensures.found c.change_wrong.ensures
