-- The conditions so far are closed.
use Rattle.sas_plan_reasons.proofs.OpenConditions.{ClosesUpTo}
use Rattle.sas_plan_reasons.proofs.order.OpenConditions.meet_all.Given as goal

abbrev pub invariant-loop-condition : goal.invariant-loop-condition
invariant-loop-condition l = ClosesUpTo l.requiring l.value l.condition-index l.fn.self l.self
