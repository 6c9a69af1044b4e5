-- The lists so far have those of their groups that have more than one fact.
use Rattle.sas_mutex.proofs.Imports.{◌≡◌, ℕ, ◌<◌, length, AreLarger, under}
use Rattle.sas_mutex.proofs.by_fact.larger_of_each.Given as goal

abbrev pub invariant-loop-key : goal.invariant-loop-key
invariant-loop-key g l = record {
  as_many : length l.larger ≡ l.key;
  are : (key : ℕ) → key < l.key → AreLarger l.layered l.own (under l.groups key) (under l.larger key);
}
