-- The effects so far agree.
use Rattle.sas_plan_reasons.proofs.Imports.{operator_at, AreFirstEffects}
use Rattle.sas_plan_reasons.proofs.conflicts.conflict.Given as goal

abbrev pub invariant-loop-later : goal.invariant-loop-later
invariant-loop-later g l =
    AreFirstEffects l.task l.state (operator_at l.task l.operator) l.later l.firsts
