-- The rules so far have set their variables.
use Rattle.sas_axioms.proofs.Imports.{ℕ, ◌≤◌, List, IsState, SameOff, work_left, KeepsRoom, AddsChanged, IsRising, SameSourcesOff}
use Rattle.sas_axioms.proofs.following.rise.Given as goal

abbrev pub invariant-loop-rule : goal.invariant-loop-rule
invariant-loop-rule g l = record {
  room : KeepsRoom l.fn.work l.work;
  sources : SameSourcesOff l.indexed l.fn.work.layer l.fn.work.sources l.work.sources;
  state : IsState l.indexed.variables l.state;
  off : SameOff l.indexed l.fn.work.layer l.fn.state l.state;
  rising : (s : List ℕ) → IsRising l.indexed s l.fn.state l.fn.work → IsRising l.indexed s l.state l.work;
  changed : AddsChanged l.indexed l.fn.state l.state l.fn.changed.items l.changed.items;
  left : work_left l.work.agenda ≤ work_left l.fn.work.agenda;
}

abbrev pub decreases-loop-rule : goal.decreases-loop-rule
decreases-loop-rule g l = work_left l.work.agenda
