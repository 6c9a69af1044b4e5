use Rattle.sas_axioms.proofs.Imports.{ℕ, ◌-◌, ◌^◌, ◌<◌, ◌≤◌, IsState, IsSettledAt, SameBasic, AtDefault}
use Rattle.sas_axioms.proofs.by_layers.settle_by_layers.Given as goal

abbrev pub invariant-loop-layer : goal.invariant-loop-layer
invariant-loop-layer g l = record {
  stands : g.E.ByLayers.stands l.evaluator l.layered l.from l.state;
  state : IsState l.layered.variables l.state;
  basic : SameBasic l.layered l.fn.state l.state;
  below : (m : ℕ) → m < l.from → IsSettledAt l.layered m l.state;
  above : (m : ℕ) → l.from ≤ m → AtDefault l.layered m l.state;
  bound : l.from ≤ 2 ^ 32;
}

abbrev pub decreases-loop-layer : goal.decreases-loop-layer
decreases-loop-layer g l = 2 ^ 32 - l.from
