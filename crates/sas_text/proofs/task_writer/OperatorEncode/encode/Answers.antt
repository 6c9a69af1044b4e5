use Rattle.sas_text.proofs.Imports.{codes, ◌++◌, name, number, fact, effect, single_line, counted}
use Rattle.sas_text.proofs.TaskTexts.{lines_after, between_on_ok}
use Rattle.sas_text.proofs.task_writer.OperatorEncode.encode.Goals as goal

pub returns : goal.returns
returns c =
    let o = c.args.self.now in
    let prevail = single_line name o.name ++ counted (single_line fact) o.prevail in
    let effects = prevail ++ counted (single_line effect) o.effects in
    let to_prevail = lines_after _ _ _ (single_line name o.name) (counted (single_line fact) o.prevail) c.in_ok-encode.ensures c.in_ok-encode_counted.ensures in
    let to_effects = lines_after _ _ _ prevail (counted (single_line effect) o.effects) to_prevail c.in_ok-encode_counted-2.ensures in
    let to_cost = lines_after _ _ _ effects (single_line number o.cost) to_effects c.in_ok-encode-2.ensures in
    between_on_ok _ _ _ _ _ (codes "begin_operator") (effects ++ single_line number o.cost) (codes "end_operator") c.in_ok-push_word.ensures to_cost c.push_word-2.ensures
