-- The list contains the exclusive verdicts so far.
use Rattle.sas_mutex.proofs.Imports.{◌≡◌, ℕ, ◌<◌, length, ◌↔◌, IsTrue, Exclusive, family_of, verdict_at}
use Rattle.sas_mutex.proofs.family.exclusive_of.Given as goal

abbrev pub invariant-loop-verdict : goal.invariant-loop-verdict
invariant-loop-verdict l = record {
  one_each : length l.kept ≡ l.verdict-index;
  exclusive : (place : ℕ) → place < l.verdict-index → IsTrue (family_of l.kept place) ↔ (verdict_at l.verdicts place ≡ Exclusive);
}
