-- None of the effects so far sets another fact of the group.
use Rattle.sas_groups.proofs.Imports.{ℕ, ◌<◌, operator_at, effect_at, Alone, NotBoth}
use Rattle.sas_groups.proofs.keeping.is_single.Given as goal

abbrev pub invariant-loop-other : goal.invariant-loop-other
invariant-loop-other g l = (k : ℕ) → k < l.other
    → NotBoth (Alone l.group) (operator_at l.task l.operator) l.group (effect_at (operator_at l.task l.operator) l.effect) (effect_at (operator_at l.task l.operator) k)
