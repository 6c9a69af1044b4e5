use Rattle.sas_task_file.proofs.Imports.{refl, fact}
use Rattle.sas_task_file.proofs.FirstWrongWords.{first_is}
use Rattle.sas_task_file.proofs.wrong_word.wrong_in_fact.Goals as goal

pub returns-in-Some : goal.returns-in-Some
returns-in-Some c = first_is _ _ c.args.line.now (fact c.in-Some.fact) _ refl c.in-Some.ensures.found c.fact_wrong.ensures
