use Rattle.sas_flat.proofs.Imports.{refl, ap, ◌∙◌, ◌++◌, ◌∷◌, []}
use Rattle.sas_flat.proofs.Grown.{operators_closed}
use Rattle.sas_flat.proofs.operators.OperatorColumns.push.Goals as goal

pub returns-clause-ok : goal.returns-clause-ok
returns-clause-ok c =
    operators_closed c.args.self.now _ c.args.name.now c.args.cost c.requires c.in_ok-extend_from_slice.ensures.items refl refl
    (c.in_ok-push.ensures.items ∙ ap (λ l. l ++ c.end-head.result ∷ []) c.reserve.ensures.items ∙ ap (λ h. c.args.self.now.heads.items ++ h ∷ []) c.end-head.ensures)
