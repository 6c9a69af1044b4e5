use Rattle.sas_flat.proofs.Imports.{refl, ap, ◌∙◌, ◌++◌, ◌∷◌, []}
use Rattle.sas_flat.proofs.Grown.{variables_closed}
use Rattle.sas_flat.proofs.variables.VariableColumns.push.Goals as goal

pub returns-clause-ok : goal.returns-clause-ok
returns-clause-ok c =
    variables_closed c.args.self.now _ c.args.name.now c.args.layer c.requires c.in_ok-push.ensures.ok
    (c.in_ok-push-2.ensures.items ∙ ap (λ l. l ++ c.args.layer ∷ []) c.reserve.ensures.items) refl
    (c.in_default.ensures.ok ∙ ap (λ n. c.args.self.now.ends ++ n ∷ []) c.len.ensures)
