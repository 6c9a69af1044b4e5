-- The variables so far are basic.
use Rattle.sas_meaning.proofs.Imports.{ℕ, ◌<◌, IsBasic}
use Rattle.sas_meaning.proofs.derived.has_derived.Given as goal

abbrev pub invariant-loop-var : goal.invariant-loop-var
invariant-loop-var g l = (k : ℕ) → k < l.var → IsBasic (g.T.Grounded.says l.task) k
