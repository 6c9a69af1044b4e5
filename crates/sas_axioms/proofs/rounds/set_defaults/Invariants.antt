use Rattle.sas_axioms.proofs.Imports.{◌≡◌, ℕ, ◌<◌, slice_index, IsState, IsOnLayer, default_of, SameBasic}
use Rattle.sas_axioms.proofs.rounds.set_defaults.Given as goal

abbrev pub invariant-loop-var : goal.invariant-loop-var
invariant-loop-var g l = record {
  state : IsState l.layered.variables l.state;
  basic : SameBasic l.layered l.fn.state l.state;
  default : (v layer : ℕ) → v < l.var → IsOnLayer l.layered layer v
      → slice_index l.state v ≡ default_of l.layered v;
}
