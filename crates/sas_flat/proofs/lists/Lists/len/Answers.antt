use Rattle.sas_flat.proofs.Imports.{◌∙◌}
use Rattle.sas_flat.proofs.Blocks.{count_of}
use Rattle.sas_flat.proofs.lists.Lists.len.Goals as goal

pub returns : goal.returns
returns g c = c.len.ensures ∙ count_of c.self.inside.columns.items.items c.self.inside.columns.ends c.args.self.now c.self.view_is
