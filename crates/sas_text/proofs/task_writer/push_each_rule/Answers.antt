use Rattle.sas_text.proofs.Imports.{◌≡◌, ℕ, suc, ◌+◌, List, ◌++◌, sym, ap, ◌∙◌, arith, take, flat_map, TaskLine, rule_lines, text_of}
use Rattle.sas_text.proofs.TaskTexts.{lines_after, lines_more}
use Rattle.sas_text.proofs.task_writer.push_each_rule.Goals as goal

pub loop-rule-preserved : goal.loop-rule-preserved
loop-rule-preserved c =
    let rules = c.as_slice-rule-items.result.now in
    let k = c.loop-rule.rule-index in
    let rule = c.rule-item.result in
    let next : k + 1 ≡ suc k = omega arith in
    let more = ap (λ (n : ℕ). flat_map rule_lines (take n rules)) next ∙ lines_more rule_lines rules k rule c.loop-rule-test.true c.rule-item.is in
    lines_after _ _ _ (flat_map rule_lines (take k rules)) (rule_lines rule) c.loop-rule.invariant c.in_ok-push_rule.ensures
    ∙ ap (λ (lines : List TaskLine). c.args.out.now.items ++ text_of lines) (sym more)
