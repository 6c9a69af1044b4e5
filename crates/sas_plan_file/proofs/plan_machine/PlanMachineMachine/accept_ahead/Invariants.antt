-- The steps so far were accepted, and the rest is left.
use Rattle.sas_plan_file.proofs.Imports.{length, LinesAccepted, plan_behavior, HasCostLine}
use Rattle.sas_plan_file.proofs.plan_machine.PlanMachineMachine.accept_ahead.Given as goal

abbrev pub invariant-loop-name : goal.invariant-loop-name
invariant-loop-name g l =
    record {
      accepted : LinesAccepted plan_behavior.led_by l.fn.self l.fn.bytes l.self l.lines l.rest;
      going_on : HasCostLine l.self → ⊥;
    }

abbrev pub decreases-loop-name : goal.decreases-loop-name
decreases-loop-name g l = length l.rest
