-- The shapes of the names so far are marked.
use Rattle.sas_names.proofs.Imports.{◌≡◌, ℕ, ◌<◌, [], length, false, get_or, IsTrue, shape_of}
use Rattle.sas_names.proofs.shapes.shapes_of_steps.Given as goal

abbrev pub invariant-loop-step : goal.invariant-loop-step
invariant-loop-step g l = record {
  all : length l.shapes.items ≡ 4096;
  each : (k : ℕ) → k < l.step → IsTrue (get_or l.shapes.items (shape_of (get_or (g.P.Stepwise.says l.plan).steps k [])) false);
}
