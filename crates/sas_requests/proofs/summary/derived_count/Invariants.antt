use Rattle.sas_requests.proofs.Imports.{◌≡◌, take}
use Rattle.sas_requests.specs.Summary as spec
use Rattle.sas_requests.proofs.summary.derived_count.Given as goal

-- how many of the first variables are derived
abbrev pub invariant-loop-var : goal.invariant-loop-var
invariant-loop-var l = l.count ≡ spec.derived_count (take l.var l.variables)
