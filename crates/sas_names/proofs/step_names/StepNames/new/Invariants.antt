-- The names of the steps so far are numbered.
use Rattle.sas_names.proofs.Imports.{◌≡◌, ◌≤◌, length, vec_capacity, AreStepsOf, HaveNumbers, HaveShapes}
use Rattle.sas_names.proofs.step_names.StepNames.new.Given as goal

abbrev pub invariant-loop-step : goal.invariant-loop-step
invariant-loop-step g l = record {
  one_each : length l.names.of_steps.items ≡ l._step;
  numbers : AreStepsOf (g.P.Stepwise.says l.plan).steps l.names.numbers;
  each : HaveNumbers (g.P.Stepwise.says l.plan).steps l.names.numbers l.names.of_steps.items;
  shapes : HaveShapes (g.P.Stepwise.says l.plan).steps l.names.shapes.items;
  room : length (g.P.Stepwise.says l.plan).steps ≤ vec_capacity l.names.of_steps;
}
