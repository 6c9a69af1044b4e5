-- The rules so far that can fire, without late ones.
use Rattle.sas_axioms.proofs.OneLayer.{FirstUpTo}
use Rattle.sas_axioms.proofs.layer_rules.first_rules.Given as goal

abbrev pub invariant-loop-rule : goal.invariant-loop-rule
invariant-loop-rule g l = FirstUpTo l.layered l.rule l.rules.items
