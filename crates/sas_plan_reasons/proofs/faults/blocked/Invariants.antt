-- Why the operators so far aren't applicable is reported.
use Rattle.sas_plan_reasons.proofs.Imports.{bytes_eq, Operator, places_to, LinesOfEach, AreFailedPreconditionLines, AddsLines}
use Rattle.sas_plan_reasons.proofs.faults.blocked.Given as goal

abbrev pub invariant-loop-operator : goal.invariant-loop-operator
invariant-loop-operator g l = AddsLines l.task l.history l.initial.explanation l.explanation
    (λ run. LinesOfEach (AreFailedPreconditionLines l.task run) (places_to (λ (o : Operator). bytes_eq o.name l.name) l.operator l.task.operators))
