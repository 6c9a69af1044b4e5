-- The list contains the conditions of the rules so far.
use Rattle.sas_axioms.proofs.AllConditions.{ConditionsUpTo}
use Rattle.sas_axioms.proofs.conditions.index_of_all.Given as goal

abbrev pub invariant-loop-rule : goal.invariant-loop-rule
invariant-loop-rule g l = ConditionsUpTo l.layered l.rule l.waiting.items
