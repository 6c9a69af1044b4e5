-- No effect so far removes the fact.
use Rattle.sas_groups.proofs.Imports.{ℕ, ◌<◌, operator_at, effect_at, Contains, Removes, known_on}
use Rattle.sas_groups.proofs.removal.is_removed.Given as goal

abbrev pub invariant-loop-effect : goal.invariant-loop-effect
invariant-loop-effect g l = (k : ℕ) → k < l.effect
    → Removes (Contains (known_on l.task l.premises)) (effect_at (operator_at l.task l.premises.operator) k) l.fact → ⊥
