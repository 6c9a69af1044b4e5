-- The words so far are the same.
use Rattle.std.proofs.Common.{◌≡◌, ℕ, ◌<◌, get_or, List}
use Rattle.std.specs.Borrow.{Bor}
use Rattle.sas_plan_reasons.proofs.similar.are_same.Given as goal

abbrev pub invariant-loop-place : goal.invariant-loop-place
invariant-loop-place l = (k : ℕ) (d : Bor (List ℕ)) → k < l.place → (get_or l.words k d).now ≡ (get_or l.others k d).now
