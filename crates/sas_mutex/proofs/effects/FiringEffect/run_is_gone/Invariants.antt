-- The facts so far can't remain.
use Rattle.sas_mutex.proofs.Imports.{ℕ, ◌<◌, get_or, Fact, IsGoneAt}
use Rattle.sas_mutex.proofs.effects.FiringEffect.run_is_gone.Given as goal

abbrev pub invariant-loop-fact : goal.invariant-loop-fact
invariant-loop-fact g l = (k : ℕ) (d : Fact) → k < l.fact-index → IsGoneAt l.self l.kept (get_or l.run k d)
