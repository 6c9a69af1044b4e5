-- The first rules are counted.
use Rattle.sas_plan_reasons.proofs.Building.{OpenUpTo}
use Rattle.sas_plan_reasons.proofs.order.OpenConditions.new.Given as goal

abbrev pub invariant-loop-rule : goal.invariant-loop-rule
invariant-loop-rule g l = OpenUpTo l.layered l.state l.rule l.«open»
