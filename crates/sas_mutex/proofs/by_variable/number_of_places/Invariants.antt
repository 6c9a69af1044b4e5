-- The number is at least 1.
use Rattle.sas_mutex.proofs.Imports.{◌<◌}
use Rattle.sas_mutex.proofs.by_variable.number_of_places.Given as goal

abbrev pub invariant-loop-operator : goal.invariant-loop-operator
invariant-loop-operator g l = 0 < l.places
