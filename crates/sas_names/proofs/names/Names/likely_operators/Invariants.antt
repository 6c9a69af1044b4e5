-- The likely operators of the names of all steps so far.
use Rattle.std.specs.Option.{unwrap_or}
use Rattle.sas_names.proofs.Imports.{◌≡◌, ℕ, ◌<◌, ◌≤◌, [], length, get_or, vec_capacity, likely_of}
use Rattle.sas_names.proofs.names.Names.likely_operators.Given as goal

abbrev pub invariant-loop-step : goal.invariant-loop-step
invariant-loop-step g l = record {
  one_each : length l.likely.items ≡ l.step;
  each : (step : ℕ) → step < l.step
      → get_or l.likely.items step 0 ≡ unwrap_or (likely_of l.self.first (get_or (g.P.Stepwise.says l.plan).steps step [])) l.none;
  room : length (g.P.Stepwise.says l.plan).steps ≤ vec_capacity l.likely;
}
