-- No effect so far removes the fact.
use Rattle.sas_mutex.proofs.Imports.{ℕ, ◌<◌, effect_at, operator_of, Removes, IsMet}
use Rattle.sas_mutex.proofs.effects.FiringEffect.some_removes.Given as goal

abbrev pub invariant-loop-effect : goal.invariant-loop-effect
invariant-loop-effect g l = (k : ℕ) → k < l.effect → Removes (IsMet l.notes l.fact) (effect_at (operator_of l.self) k) l.fact → ⊥
