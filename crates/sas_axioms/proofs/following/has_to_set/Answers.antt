-- The variable of the rule exists.
use Rattle.sas_axioms.proofs.RuleChanges.{value_within}
use Rattle.sas_axioms.proofs.following.has_to_set.Goals as goal

pub value-requires : goal.value-requires
value-requires g c = search (value_within)
