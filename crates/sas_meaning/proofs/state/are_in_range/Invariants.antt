-- The values so far are in range.
use Rattle.sas_meaning.proofs.Imports.{ℕ, ◌<◌, get_or, range_of}
use Rattle.sas_meaning.proofs.state.are_in_range.Given as goal

abbrev pub invariant-loop-var : goal.invariant-loop-var
invariant-loop-var g l = record {
  in_range : (v : ℕ) → v < l.var → get_or l.values v 0 < range_of (g.T.Grounded.says l.task).variables v;
}
