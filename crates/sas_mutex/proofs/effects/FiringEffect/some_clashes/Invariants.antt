-- None of the facts so far clashes.
use Rattle.sas_mutex.proofs.Imports.{ℕ, ◌<◌, get_or, Fact, ClashesAt}
use Rattle.sas_mutex.proofs.effects.FiringEffect.some_clashes.Given as goal

abbrev pub invariant-loop-fact : goal.invariant-loop-fact
invariant-loop-fact g l = (k : ℕ) (d : Fact) → k < l.fact-index → ClashesAt l.self l.kept (get_or l.facts k d) → ⊥
