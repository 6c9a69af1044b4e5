use Rattle.sas_text.proofs.Imports.{codes, flat_map, number, single_line}
use Rattle.sas_text.proofs.TaskTexts.{between_on_ok}
use Rattle.sas_text.proofs.task_writer.encode_state.Goals as goal

pub returns : goal.returns
returns c = between_on_ok _ _ _ _ _ (codes "begin_state") (flat_map (single_line number) c.args.values.now) (codes "end_state") c.in_ok-push_word.ensures c.in_ok-push_each.ensures c.push_word-2.ensures
