-- The causes of the preconditions so far are reported, and the variables of those that are left have values.
use Rattle.sas_plan_reasons.proofs.Imports.{◌≡◌, ◌<◌, length, ◌++◌, filter, All, Fact, operator_at, preconditions, LinesOfEach, fails, IsCause, AddsLines}
use Rattle.sas_plan_reasons.proofs.faults.explain_inapplicable.Given as goal

abbrev pub invariant-loop-fact : goal.invariant-loop-fact
invariant-loop-fact g l = record {
  left : preconditions (operator_at l.layered l.operator) ≡ l.yielded ++ l.fact-iterator;
  within : All (λ (f : Fact). f.var < length l.history.last) l.fact-iterator;
  reported : AddsLines l.layered l.history l.initial.explanation l.explanation (λ run. LinesOfEach (IsCause l.layered run) (filter (fails l.history.last) l.yielded));
}
