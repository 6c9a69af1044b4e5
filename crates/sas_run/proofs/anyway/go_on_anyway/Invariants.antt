-- The step and some later ones were made.
use Rattle.sas_run.proofs.Imports.{◌≡◌, ℕ, ◌+◌, ◌-◌, ◌≤◌, List, IsAt, MadeAnyway, GoOnAnyway, AreNoted}
use Rattle.sas_run.proofs.anyway.go_on_anyway.Given as goal

abbrev pub invariant-loop-before : goal.invariant-loop-before
invariant-loop-before g l = record {
  at : IsAt g.E.Settle.ready g.E.Settle.follows l.layered l.stepper l.anyway.state;
  step : l.anyway.step ≡ l.step;
  there : List ℕ;
  made : MadeAnyway l.layered (g.C.Chooser.means l.chooser l.layered) (g.C.Chooser.lowest l.chooser l.layered) (l.step - 1) l.fn.anyway.state there;
  n : ℕ;
  number : l.step + n ≡ l.before;
  failing : List ℕ;
  later : GoOnAnyway l.layered (g.C.Chooser.means l.chooser l.layered) (g.C.Chooser.lowest l.chooser l.layered) l.step there n failing l.anyway.state;
  noted : AreNoted failing l.anyway;
  few : l.anyway.failing ≤ n;
}
