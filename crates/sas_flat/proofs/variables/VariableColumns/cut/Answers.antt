use Rattle.sas_flat.proofs.Imports.{refl, ap, ◌∙◌, take, start_of}
use Rattle.sas_flat.proofs.Grown.{variables_cut}
use Rattle.sas_flat.proofs.variables.VariableColumns.cut.Goals as goal

pub returns : goal.returns
returns c =
    variables_cut c.args.self.now _ refl refl refl c.requires
    (c.truncate.ensures ∙ ap (λ n. take n c.args.self.now.values) (c.start.ensures ∙ ap (start_of c.args.self.now.ends) c.len.ensures))
