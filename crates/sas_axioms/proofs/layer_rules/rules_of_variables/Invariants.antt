-- The entries of the first rules.
use Rattle.sas_axioms.proofs.RulesOf.{RulesTo}
use Rattle.sas_axioms.proofs.layer_rules.rules_of_variables.Given as goal

abbrev pub invariant-loop-rule : goal.invariant-loop-rule
invariant-loop-rule g l = RulesTo l.layered l.rule l.entries.items
