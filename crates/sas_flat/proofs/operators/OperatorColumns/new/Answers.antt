use Rattle.sas_flat.proofs.Grown.{no_operators}
use Rattle.sas_flat.proofs.operators.OperatorColumns.new.Goals as goal

pub returns : goal.returns
returns c = no_operators _ c.new.ensures.items c.new-2.ensures.items c.new-3.ensures c.new-4.ensures.items
