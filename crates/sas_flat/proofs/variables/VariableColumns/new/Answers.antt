use Rattle.sas_flat.proofs.Grown.{no_variables}
use Rattle.sas_flat.proofs.variables.VariableColumns.new.Goals as goal

pub returns : goal.returns
returns c = no_variables _ c.new.ensures c.new-2.ensures.items c.new-3.ensures c.new-4.ensures
