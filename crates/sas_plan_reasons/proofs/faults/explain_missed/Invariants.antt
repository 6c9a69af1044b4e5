-- The causes of the goal facts so far are reported.
use Rattle.sas_plan_reasons.proofs.Imports.{LinesOfEach, fails, AreGoalFactLines, places_to, AddsLines}
use Rattle.sas_plan_reasons.proofs.faults.explain_missed.Given as goal

abbrev pub invariant-loop-index : goal.invariant-loop-index
invariant-loop-index g l = AddsLines l.layered l.history l.initial.explanation l.explanation
    (λ run. LinesOfEach (AreGoalFactLines l.layered run) (places_to (fails l.history.last) l.index l.layered.goal))
