-- The variables so far have the values of the state.
use Rattle.sas_axioms.proofs.Imports.{◌≡◌, ℕ, ◌<◌, ◌≤◌, length, get_or, Parts, IsCounted}
use Rattle.sas_axioms.proofs.counting.ConditionCounts.follow_part.Given as goal

abbrev pub invariant-loop-var : goal.invariant-loop-var
invariant-loop-var l = record {
  known : length l.self.values ≡ length l.state;
  counts : (p : Parts) → IsCounted p l.fn.self → IsCounted p l.self;
  part : (k : ℕ) → l.start ≤ k → k < l.var → get_or l.self.values k 0 ≡ get_or l.state k 0;
  before : (k : ℕ) → k < l.start → get_or l.self.values k 0 ≡ get_or l.fn.self.values k 0;
}
