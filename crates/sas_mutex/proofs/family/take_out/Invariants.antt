-- The groups so far are removed.
use Rattle.sas_mutex.proofs.Imports.{◌≡◌, ℕ, ◌<◌, true, false, length, get_or, family_of}
use Rattle.sas_mutex.proofs.family.take_out.Given as goal

abbrev pub invariant-loop-group : goal.invariant-loop-group
invariant-loop-group l = record {
  as_many : length l.list ≡ length l.fn.list;
  out : (k d : ℕ) → k < l.group-index → family_of l.list (get_or l.groups k d) ≡ false;
  less : (group : ℕ) → family_of l.list group ≡ true → family_of l.fn.list group ≡ true;
}
