-- The values so far are in range.
use Rattle.sas_run.proofs.Imports.{ℕ, ◌<◌, get_or, HasValue}
use Rattle.sas_run.proofs.starts.first_out_of_range.Given as goal

abbrev pub invariant-loop-var : goal.invariant-loop-var
invariant-loop-var g l = (lower : ℕ) → lower < l.var → HasValue l.task.variables lower (get_or l.values lower 0)
