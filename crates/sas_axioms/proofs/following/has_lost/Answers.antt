-- The variable of the rule exists.
use Rattle.sas_axioms.proofs.Imports.{arith}
use Rattle.sas_axioms.proofs.RuleChanges.{var_within, value_within}
use Rattle.sas_axioms.proofs.following.has_lost.Goals as goal

pub initial_value-requires : goal.initial_value-requires
initial_value-requires g c = search (var_within)

pub value-requires : goal.value-requires
value-requires g c = search (value_within)

pub bounds-as_slice-var : goal.bounds-as_slice-var
bounds-as_slice-var g c = search (arith, value_within)
