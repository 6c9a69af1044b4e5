use Rattle.sas_text.proofs.Imports.{List, ℕ, ap, ◌++◌, ◌∙◌, Parts, task_layout, version_lines, metric_lines, counted, variable_lines, group_lines, state_lines, goal_lines, operator_lines, rule_lines, text_of}
use Rattle.sas_text.proofs.TaskTexts.{lines_after}
use Rattle.sas_text.proofs.task_writer.encode_task.Goals as goal

pub returns : goal.returns
returns c =
    let p = c.parts-parts.result.now in
    let metric = version_lines ++ metric_lines p.metric in
    let variables = metric ++ counted variable_lines p.variables in
    let groups = variables ++ counted group_lines p.groups in
    let state = groups ++ state_lines p.init in
    let goal_section = state ++ goal_lines p.goal in
    let operators = goal_section ++ counted operator_lines p.operators in
    let rules = operators ++ counted rule_lines p.rules in
    let to_metric = lines_after _ _ _ version_lines (metric_lines p.metric) c.in_ok-push_version.ensures c.in_ok-push_metric.ensures in
    let to_variables = lines_after _ _ _ metric (counted variable_lines p.variables) to_metric c.in_ok-encode_counted.ensures in
    let to_groups = lines_after _ _ _ variables (counted group_lines p.groups) to_variables c.in_ok-encode_counted-2.ensures in
    let to_state = lines_after _ _ _ groups (state_lines p.init) to_groups c.in_ok-encode_state.ensures in
    let to_goal = lines_after _ _ _ state (goal_lines p.goal) to_state c.in_ok-encode_goal.ensures in
    let to_operators = lines_after _ _ _ goal_section (counted operator_lines p.operators) to_goal c.in_ok-encode_counted-3.ensures in
    let to_rules = lines_after _ _ _ operators (counted rule_lines p.rules) to_operators c.in_ok-encode_rules.ensures in
    to_rules ∙ ap (λ (x : List ℕ). x ++ text_of rules) c.new-out.ensures.items ∙ ap (λ (q : Parts). text_of (task_layout q)) c.parts-parts.ensures.parts
