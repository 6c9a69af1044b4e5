use Rattle.sas_flat.proofs.Imports.{[], ◌∷◌, ◌++◌, ap, ◌∙◌, on_ok_weaker}
use Rattle.sas_flat.proofs.lists.Lists.push.Goals as goal

pub returns-clause-ok : goal.returns-clause-ok
returns-clause-ok g c = on_ok_weaker c.append.result (λ more. more ∙ ap (λ l. l ++ c.args.list.now ∷ []) c.self.view_is) c.append.ensures.ok
