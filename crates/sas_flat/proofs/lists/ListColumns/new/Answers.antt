use Rattle.sas_flat.proofs.Blocks.{no_ends, no_list}
use Rattle.sas_flat.proofs.lists.ListColumns.new.Goals as goal

pub returns : goal.returns
returns g c = record { align = rw (c.new.ensures.items, c.new-2.ensures) no_ends; is = no_list _ _ c.new-2.ensures }
