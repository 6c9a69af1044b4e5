-- The old values that the changes so far require hold.
use Rattle.sas_run.proofs.Imports.{ℕ, ◌<◌, get_or, Change, OldHolds}
use Rattle.sas_run.proofs.plain_steps.old_values_hold.Given as goal

abbrev pub invariant-loop-change : goal.invariant-loop-change
invariant-loop-change l = (k : ℕ) (d : Change) → k < l.change-index → OldHolds l.state (get_or l.changes k d)
