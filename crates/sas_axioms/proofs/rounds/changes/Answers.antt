-- The variables and values in the rule exist.
use Rattle.sas_axioms.proofs.Imports.{arith}
use Rattle.sas_axioms.proofs.RuleChanges.{var_within, value_within, conditions_within}
use Rattle.sas_axioms.proofs.rounds.changes.Goals as goal

pub holds_all-requires : goal.holds_all-requires
holds_all-requires g c = search (arith, conditions_within)

pub layer-requires : goal.layer-requires
layer-requires g c = search (var_within)

pub initial_value-requires : goal.initial_value-requires
initial_value-requires g c = search (var_within)

pub value-requires : goal.value-requires
value-requires g c = search (value_within)
