-- The runs of the groups so far.
use Rattle.sas_mutex.proofs.Imports.{◌≡◌, ℕ, ◌<◌, [], length, get_or, facts_at, AreRuns}
use Rattle.sas_mutex.proofs.runs.runs_of_groups.Given as goal

abbrev pub invariant-loop-group : goal.invariant-loop-group
invariant-loop-group g l = record {
  one_each : length l.runs ≡ l.group;
  are : (place : ℕ) → place < l.group → AreRuns (facts_at l.layered l.own place) (get_or l.runs place []);
}
