-- The variables so far are reset.
use Rattle.sas_axioms.proofs.Imports.{◌≡◌, ◌⊎◌, ℕ, ◌<◌, List, IsState, SameOff, work_left, SameWork, AddsChanged, IsFalling}
use Rattle.sas_axioms.proofs.following.fall.Given as goal

abbrev pub invariant-loop-rule : goal.invariant-loop-rule
invariant-loop-rule g l = record {
  same : SameWork l.fn.work l.work;
  state : IsState l.indexed.variables l.state;
  off : SameOff l.indexed l.fn.work.layer l.fn.state l.state;
  falling : (s : List ℕ) → IsFalling l.indexed s l.fn.state l.fn.work → IsFalling l.indexed s l.state l.work;
  changed : AddsChanged l.indexed l.fn.state l.state l.fn.changed.items l.changed.items;
  left : (work_left l.work.agenda < work_left l.fn.work.agenda) ⊎ (l.work.agenda ≡ l.fn.work.agenda);
}

abbrev pub decreases-loop-rule : goal.decreases-loop-rule
decreases-loop-rule g l = work_left l.work.agenda
