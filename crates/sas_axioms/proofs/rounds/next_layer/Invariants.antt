use Rattle.sas_axioms.proofs.Imports.{ℕ, ◌<◌, ◌≤◌, IfSome, IfNone, IsOnLayer, Occurs}
use Rattle.sas_axioms.proofs.rounds.next_layer.Given as goal

abbrev pub invariant-loop-var : goal.invariant-loop-var
invariant-loop-var g l = record {
  some : IfSome l.lowest (λ n. (l.from ≤ n) × Occurs l.layered n
      × ((v m : ℕ) → v < l.var → l.from ≤ m → IsOnLayer l.layered m v → n ≤ m));
  none : IfNone l.lowest ((v m : ℕ) → v < l.var → l.from ≤ m → IsOnLayer l.layered m v → ⊥);
}
