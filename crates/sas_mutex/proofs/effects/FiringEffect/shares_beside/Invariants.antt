-- No group of the family contains the fact and one of the known facts so far, except perhaps the
-- one set apart.
use Rattle.sas_mutex.proofs.Imports.{◌≢◌, Some, Fact, known_left, Turns, ShareOne, known_at}
use Rattle.sas_mutex.proofs.effects.FiringEffect.shares_beside.Given as goal

abbrev pub invariant-loop-known : goal.invariant-loop-known
invariant-loop-known g l = Turns (λ (known : Fact). l.recorded.known.apart ≢ Some known → ShareOne l.self.task l.kept known l.fact → ⊥)
    (known_at l.self.task l.self.operator l.self.effect) l.yielded (known_left l.known-iterator)
