use Rattle.sas_axioms.proofs.Imports.{IsState, OnlyForced, SameOff, equal_places}
use Rattle.sas_axioms.proofs.rounds.RoundsByLayers.settle_next.Given as goal

abbrev pub invariant-loop : goal.invariant-loop
invariant-loop g l = record {
  state : IsState l.layered.variables l.state;
  forced : OnlyForced l.layered l.layer l.state;
  off : SameOff l.layered l.layer l.fn.state l.state;
}

abbrev pub decreases-loop : goal.decreases-loop
decreases-loop g l = equal_places l.state l.layered.init
