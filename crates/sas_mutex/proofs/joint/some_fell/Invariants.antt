-- None of the groups so far lacks a verdict.
use Rattle.sas_mutex.proofs.Imports.{ℕ, ◌<◌, IsUndecided}
use Rattle.sas_mutex.proofs.joint.some_fell.Given as goal

abbrev pub invariant-loop-group : goal.invariant-loop-group
invariant-loop-group l = (place : ℕ) → place < l.group → IsUndecided l.kept l.verdicts place → ⊥
