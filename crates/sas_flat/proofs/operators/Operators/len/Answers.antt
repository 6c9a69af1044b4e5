use Rattle.sas_flat.proofs.Imports.{◌∙◌}
use Rattle.sas_flat.proofs.FoundOperators.{as_many}
use Rattle.sas_flat.proofs.operators.Operators.len.Goals as goal

pub returns : goal.returns
returns c = c.len.ensures ∙ c.self.inside.columns.heads.ok.0 ∙ as_many c.self.inside.columns c.args.self.now c.self.view_is
