-- The operators of all steps so far are confirmed, and the others are likely.
use Rattle.std.specs.Option.{unwrap_or}
use Rattle.sas_names.proofs.Imports.{◌≡◌, ℕ, ◌<◌, ◌≤◌, [], length, get_or, likely_of, IsNextNamed, existing}
use Rattle.sas_names.proofs.names.Names.first_operators.Given as goal

abbrev pub invariant-loop-step : goal.invariant-loop-step
invariant-loop-step g l = record {
  one_each : length l.firsts.items ≡ length (g.P.Stepwise.says l.plan).steps;
  lowest : (step : ℕ) → step < l.step
      → IsNextNamed (g.T.Grounded.says l.task) (get_or (g.P.Stepwise.says l.plan).steps step []) 0 (existing (g.T.Grounded.says l.task) (get_or l.firsts.items step 0));
  likely : (step : ℕ) → l.step ≤ step → step < length (g.P.Stepwise.says l.plan).steps
      → get_or l.firsts.items step 0 ≡ unwrap_or (likely_of l.self.first (get_or (g.P.Stepwise.says l.plan).steps step [])) l.none;
}
