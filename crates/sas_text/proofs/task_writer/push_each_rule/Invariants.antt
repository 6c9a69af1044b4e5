use Rattle.sas_text.proofs.Imports.{◌≡◌, ◌++◌, take, flat_map, rule_lines, text_of}
use Rattle.sas_text.proofs.task_writer.push_each_rule.Given as goal

-- the lines of the rules so far
abbrev pub invariant-loop-rule : goal.invariant-loop-rule
invariant-loop-rule l = l.out.items ≡ l.fn.out.items ++ text_of (flat_map rule_lines (take l.rule-index l.rule-items))
