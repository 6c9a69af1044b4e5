-- The facts so far are on the variable.
use Rattle.sas_mutex.proofs.Imports.{◌≡◌, take, All, Fact}
use Rattle.sas_mutex.proofs.runs.run_length.Given as goal

abbrev pub invariant-loop-place : goal.invariant-loop-place
invariant-loop-place l = All (λ (f : Fact). f.var ≡ l.var) (take l.place l.facts)
