use Rattle.sas_flat.proofs.Blocks.{no_list}
use Rattle.sas_flat.proofs.lists.Lists.clear.Goals as goal

pub returns : goal.returns
returns g c = no_list c.clear.new.self.items c.clear-2.new.self c.clear-2.ensures
