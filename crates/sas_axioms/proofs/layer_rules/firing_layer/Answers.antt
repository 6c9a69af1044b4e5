-- The variable of the rule exists.
use Rattle.sas_axioms.proofs.RuleChanges.{var_within}
use Rattle.sas_axioms.proofs.layer_rules.firing_layer.Goals as goal

pub layer-requires : goal.layer-requires
layer-requires g c = search (var_within)

pub initial_value-requires : goal.initial_value-requires
initial_value-requires g c = search (var_within)
