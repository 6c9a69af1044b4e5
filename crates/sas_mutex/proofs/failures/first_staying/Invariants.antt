-- None of the facts so far may remain.
use Rattle.sas_mutex.proofs.Imports.{ℕ, ◌<◌, get_or, Fact, IsGoneAt}
use Rattle.sas_mutex.proofs.failures.first_staying.Given as goal

abbrev pub invariant-loop-place : goal.invariant-loop-place
invariant-loop-place g l = (k : ℕ) (d : Fact) → k < l.place → IsGoneAt l.firing l.kept (get_or l.facts k d)
