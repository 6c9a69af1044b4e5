-- The steps so far lead from the start to the current state, and the observer was told of them.
use Rattle.sas_run.proofs.Imports.{◌≡◌, ℕ, List, length, Makes, IsAt, start_of}
use Rattle.sas_run.proofs.executor.make_steps.Given as goal

abbrev pub invariant-loop-before : goal.invariant-loop-before
invariant-loop-before g l = record {
  at : IsAt g.E.Settle.ready g.E.Settle.follows l.layered l.stepper l.state;
  operators : List ℕ;
  makes : Makes l.layered (start_of l.layered (g.C.Chooser.starts l.chooser)) (g.C.Chooser.means l.chooser l.layered) operators l.state;
  one_each : length operators ≡ l.before;
  sees : g.O.Observer.sees l.layered (start_of l.layered (g.C.Chooser.starts l.chooser)) l.fn.observer l.observer operators;
}
