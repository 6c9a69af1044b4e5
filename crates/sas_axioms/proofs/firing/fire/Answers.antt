-- The variable of the rule exists.
use Rattle.sas_axioms.proofs.RuleChanges.{value_within}
use Rattle.sas_axioms.proofs.firing.fire.Goals as goal

pub set-requires : goal.set-requires
set-requires g c = search (value_within)

pub set-requires-2 : goal.set-requires-2
set-requires-2 g c = search (value_within)
