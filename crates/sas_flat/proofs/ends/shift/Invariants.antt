use Rattle.sas_flat.proofs.Imports.{◌≡◌, ◌+◌, ◌++◌, take, drop, map}
use Rattle.sas_flat.proofs.ends.shift.Given as goal

abbrev pub invariant-loop-place : goal.invariant-loop-place
invariant-loop-place l = l.places ≡ map (λ p. p + l.by) (take l.place-index l.initial.places) ++ drop l.place-index l.initial.places
