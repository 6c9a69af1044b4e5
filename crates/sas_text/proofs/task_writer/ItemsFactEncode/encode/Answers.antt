use Rattle.sas_text.proofs.Imports.{codes, fact, single_line, counted}
use Rattle.sas_text.proofs.TaskTexts.{between_on_ok}
use Rattle.sas_text.proofs.task_writer.ItemsFactEncode.encode.Goals as goal

pub returns : goal.returns
returns c = between_on_ok _ _ _ _ _ (codes "begin_mutex_group") (counted (single_line fact) c.args.self.now) (codes "end_mutex_group") c.in_ok-push_word.ensures c.in_ok-encode_counted.ensures c.push_word-2.ensures
