-- The rules so far stand in the order.
use Rattle.sas_plan_reasons.proofs.Imports.{IsOrderSoFar, work_left}
use Rattle.sas_plan_reasons.proofs.order.OrderSoFar.finish.Given as goal

abbrev pub invariant-loop-next : goal.invariant-loop-next
invariant-loop-next g l = IsOrderSoFar l.task l.state l.self

abbrev pub decreases-loop-next : goal.decreases-loop-next
decreases-loop-next g l = work_left l.self.«open»
