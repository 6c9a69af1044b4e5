-- The lowest rule that is ready is looked at; where none is ready, none can be added.
use Rattle.sas_plan_reasons.proofs.Imports.{refl}
use Rattle.sas_plan_reasons.proofs.Building.{taken}
use Rattle.sas_plan_reasons.proofs.order.OrderSoFar.finish.Goals as goal

pub add-requires-clause-next : goal.add-requires-clause-next
add-requires-clause-next g c = taken c.args.task.now c.args.state.now c.loop-next.self _ c.in-Some.next c.loop-next.invariant refl refl refl
    c.in-Some.ensures.permutation c.in-Some.ensures.heap_order
