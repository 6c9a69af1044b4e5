-- The conditions so far are known.
use Rattle.sas_groups.proofs.Imports.{ℕ, ◌<◌, get_or, Contains, Fact, known_on}
use Rattle.sas_groups.proofs.removal.all_known.Given as goal

abbrev pub invariant-loop-condition : goal.invariant-loop-condition
invariant-loop-condition g l = (k : ℕ) (d : Fact) → k < l.condition-index
    → Contains (known_on l.task l.premises) (get_or l.conditions k d)
