-- The layers so far are settled.
use Rattle.sas_axioms.proofs.Imports.{◌≡◌, ℕ, List, [], length, IsState, SameBasic, work_left, AddsChanged, IsBetween}
use Rattle.sas_axioms.proofs.following.settle_gone.Given as goal

abbrev pub invariant-loop-layer : goal.invariant-loop-layer
invariant-loop-layer g l = record {
  stack : l.work.stack ≡ l.fn.work.stack;
  one_each : length l.work.counters ≡ length l.fn.work.counters;
  sources : length l.work.sources ≡ length l.fn.work.sources;
  state : IsState l.indexed.variables l.state;
  basic : SameBasic l.indexed l.fn.state l.state;
  changed : AddsChanged l.indexed l.fn.state l.state [] l.changed.items;
  between : (s : List ℕ) × (from : ℕ) × IsBetween l.indexed s from l.state l.work;
}

abbrev pub decreases-loop-layer : goal.decreases-loop-layer
decreases-loop-layer g l = work_left l.work.agenda
