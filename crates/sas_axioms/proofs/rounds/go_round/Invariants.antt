use Rattle.sas_axioms.proofs.Imports.{ℕ, ◌<◌, ◌≤◌, get_or, IsTrue, IsFalse, Effect, IsState, OnlyForced, equal_places, HasFired, SameOff}
use Rattle.sas_axioms.proofs.rounds.go_round.Given as goal

abbrev pub invariant-loop-rule : goal.invariant-loop-rule
invariant-loop-rule g l = record {
  state : IsState l.layered.variables l.state;
  forced : OnlyForced l.layered l.layer l.state;
  off : SameOff l.layered l.layer l.fn.state l.state;
  fewer : equal_places l.state l.layered.init ≤ equal_places l.fn.state l.layered.init;
  more : IsTrue l.changed → equal_places l.state l.layered.init < equal_places l.fn.state l.layered.init;
  done : IsFalse l.changed → (k : ℕ) (d : Effect) → k < l.rule
      → HasFired l.layered l.layer l.state (get_or l.layered.rules k d);
}
