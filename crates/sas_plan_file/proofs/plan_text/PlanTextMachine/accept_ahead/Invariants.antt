-- The steps so far were accepted, and the rest is left.
use Rattle.sas_plan_file.proofs.Imports.{length, IsTrue, LinesAccepted, KeepsLines}
use Rattle.sas_plan_file.proofs.plan_text.PlanTextMachine.accept_ahead.Given as goal

abbrev pub invariant-loop-name : goal.invariant-loop-name
invariant-loop-name g l =
    record {
      accepted : LinesAccepted KeepsLines l.fn.self l.fn.bytes l.self l.lines l.rest;
      going_on : IsTrue l.self.closed → ⊥;
    }

abbrev pub decreases-loop-name : goal.decreases-loop-name
decreases-loop-name g l = length l.rest
