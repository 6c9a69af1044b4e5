-- The variables so far have the values of the state.
use Rattle.sas_axioms.proofs.Imports.{◌≡◌, ℕ, ◌-◌, ◌<◌, ◌≤◌, length, get_or, IsCounted}
use Rattle.sas_axioms.proofs.counting.ConditionCounts.follow.Given as goal

abbrev pub invariant-loop-start : goal.invariant-loop-start
invariant-loop-start g l = record {
  within : l.start ≤ length l.layered.variables;
  counts : IsCounted l.layered l.self;
  so_far : (k : ℕ) → k < l.start → get_or l.self.values k 0 ≡ get_or l.state k 0;
}

abbrev pub decreases-loop-start : goal.decreases-loop-start
decreases-loop-start g l = length l.layered.variables - l.start
