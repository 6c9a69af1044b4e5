-- The shape is computed as it is defined.
use Rattle.sas_names.proofs.Imports.{rules, shape_of}
use Rattle.sas_names.proofs.shapes.shape.Goals as goal

pub returns-clause-is : goal.returns-clause-is
unfolding shape_of
returns-clause-is c = search rules
