-- None of the facts so far remains.
use Rattle.sas_groups.proofs.Imports.{ℕ, ◌<◌, get_or, Fact, operator_at, effect_at, Alone, IsGone}
use Rattle.sas_groups.proofs.keeping.removes_all.Given as goal

abbrev pub invariant-loop-fact : goal.invariant-loop-fact
invariant-loop-fact g l = (k : ℕ) (d : Fact) → k < l.fact-index
    → IsGone (Alone l.group) (operator_at l.task l.operator) (effect_at (operator_at l.task l.operator) l.effect) (get_or l.group k d)
