-- One condition more is closed, or it is on another value.
use Rattle.sas_plan_reasons.proofs.OpenConditions.{closes_passed, closes_met}
use Rattle.sas_plan_reasons.proofs.order.OpenConditions.meet_all.Goals as goal
use Rattle.sas_plan_reasons.proofs.order.OpenConditions.meet_all.Goals.{then-condition-value+in_ok-meet, else-condition-value}

pub loop-condition-preserved : goal.loop-condition-preserved
loop-condition-preserved c =
    let lt = c.loop-condition-test.true in
    let inv = c.loop-condition.invariant in
    elim c.if-condition-value.branch [
      | then-condition-value+in_ok-meet w ↦ rw w.self-is (closes_met _ _ _ _ _ lt inv w.if-condition-value.true _ w.in_ok-meet.ensures)
      | else-condition-value w ↦ rw w.self-is (closes_passed _ _ _ _ _ lt inv w.if-condition-value.false)
    ]
