-- The groups so far have their own lists.
use Rattle.sas_mutex.proofs.Imports.{ℕ, ◌<◌, ◌≤◌, length, group_at, facts_at, AreDistinct}
use Rattle.sas_mutex.proofs.distinct.own_lists.Given as goal

abbrev pub invariant-loop-group : goal.invariant-loop-group
invariant-loop-group g l = record {
  short : length l.own ≤ l.group;
  are : (place : ℕ) → place < l.group → AreDistinct (facts_at l.layered l.own place) (group_at l.layered place);
}
