use Rattle.sas_task_file.proofs.Imports.{refl, effect}
use Rattle.sas_task_file.proofs.FirstWrongWords.{first_is}
use Rattle.sas_task_file.proofs.wrong_word.wrong_in_effect.Goals as goal

pub returns : goal.returns
returns c = first_is _ _ c.args.line.now (effect c.parse_effect.new.effect) _ refl (c.in_ok-found.ensures.found c.if-not-found.false) c.effect_wrong.ensures
