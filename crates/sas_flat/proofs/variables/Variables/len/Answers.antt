use Rattle.sas_flat.proofs.Imports.{◌∙◌}
use Rattle.sas_flat.proofs.FoundVariables.{as_many}
use Rattle.sas_flat.proofs.variables.Variables.len.Goals as goal

pub returns : goal.returns
returns c = c.len.ensures ∙ as_many c.self.inside.columns c.args.self.now c.self.view_is
