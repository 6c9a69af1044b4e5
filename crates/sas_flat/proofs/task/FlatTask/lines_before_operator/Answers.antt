use Rattle.sas_flat.proofs.Imports.{length, ap, ◌∙◌, operator_line, Parts}
use Rattle.sas_flat.specs.FlatTasks.{parts_in}
use Rattle.sas_flat.proofs.Sums.{lines_to_operator}
use Rattle.sas_flat.proofs.task.FlatTask.lines_before_operator.Goals as goal

pub returns-clause-lines : goal.returns-clause-lines
returns-clause-lines c =
    lines_to_operator (parts_in c.self.inside.columns) c.args.operator c.len-variables.result c.values-values.result c.len-groups.result c.items_before-facts.result _ _ c.before-prevail.result.0 c.before-prevail.result.1
    c.len-variables.ensures c.values-values.ensures c.len-groups.ensures c.items_before-facts.ensures (ap length c.as_slice.ensures) (ap length c.as_slice-2.ensures) c.before-prevail.ensures
    ∙ ap (λ (p : Parts). operator_line p c.args.operator) c.self.view_is
