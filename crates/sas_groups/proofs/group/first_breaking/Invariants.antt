-- The operators so far keep the group.
use Rattle.sas_groups.proofs.Imports.{ℕ, ◌<◌, operator_at, Keeps, Alone}
use Rattle.sas_groups.proofs.group.first_breaking.Given as goal

abbrev pub invariant-loop-operator : goal.invariant-loop-operator
invariant-loop-operator g l = (k : ℕ) → k < l.operator → Keeps (Alone l.group) (operator_at l.task k) l.group
