-- None of the groups so far has just one fact.
use Rattle.sas_mutex.proofs.Imports.{◌≢◌, ℕ, ◌<◌, length, facts_at}
use Rattle.sas_mutex.proofs.by_fact.some_has_one.Given as goal

abbrev pub invariant-loop-group : goal.invariant-loop-group
invariant-loop-group g l = (place : ℕ) → place < l.group → length (facts_at l.layered l.own place) ≢ 1
