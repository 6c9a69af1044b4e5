-- The effects so far keep the group.
use Rattle.sas_groups.proofs.Imports.{ℕ, ◌<◌, operator_at, effect_at, Alone, KeepsIfSets}
use Rattle.sas_groups.proofs.keeping.keeps.Given as goal

abbrev pub invariant-loop-effect : goal.invariant-loop-effect
invariant-loop-effect g l = (k : ℕ) → k < l.effect
    → KeepsIfSets (Alone l.group) (operator_at l.task l.operator) l.group (effect_at (operator_at l.task l.operator) k)
