-- The rest of a search from operator to operator.
use Rattle.sas_run.proofs.Imports.{ℕ, ◌-◌, length, Option, None, Some, Parts}

-- the operators that are still to be searched
abbrev pub left : Parts → Option ℕ → ℕ
left p (Some operator) = length p.operators - operator
left p None = 0
