-- None of the changes so far is on the variable of a later one.
use Rattle.sas_run.proofs.Imports.{ℕ, ◌<◌, ◌≢◌, length, get_or, Change}
use Rattle.sas_run.proofs.plain_steps.are_apart.Given as goal

abbrev pub invariant-loop-index : goal.invariant-loop-index
invariant-loop-index l = (i j : ℕ) (d : Change) → i < l.index → i < j → j < length l.changes
    → (get_or l.changes i d).var ≢ (get_or l.changes j d).var
