-- The counters so far.
use Rattle.sas_axioms.proofs.Imports.{◌≡◌, ℕ, ◌<◌, length, get_or, slice_index, rule_at, open_conditions}
use Rattle.sas_axioms.proofs.counting.open_counters.Given as goal

abbrev pub invariant-loop-rule : goal.invariant-loop-rule
invariant-loop-rule g l = record {
  so_far : length l.counters ≡ l.rule;
  exact : (k : ℕ) → k < l.rule → get_or l.counters k 0 ≡ open_conditions (slice_index l.values) (rule_at l.layered k).conditions;
}
