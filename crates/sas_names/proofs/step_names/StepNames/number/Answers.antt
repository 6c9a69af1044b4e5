-- A name whose shape no step's name has isn't one of these names.
use Rattle.sas_names.proofs.Imports.{arith}
use Rattle.sas_names.proofs.NameShapes.{unmarked}
use Rattle.sas_names.proofs.step_names.StepNames.number.Goals as goal

pub returns-else-is_shape_of : goal.returns-else-is_shape_of
returns-else-is_shape_of g c = search (arith, unmarked)
