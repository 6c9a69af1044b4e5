-- The variable of the rule exists.
use Rattle.sas_axioms.proofs.RuleChanges.{var_within, value_within}
use Rattle.sas_axioms.proofs.firing.has_to_fire.Goals as goal

pub layer-requires : goal.layer-requires
layer-requires g c = search (var_within)

pub value-requires : goal.value-requires
value-requires g c = search (value_within)
