-- The effects so far without conditions were looked at.
use Rattle.sas_mutex.proofs.Imports.{◌<◌, IsUnconditional, Looked, IsAtEffect}
use Rattle.sas_mutex.proofs.looking.Keeping.look_at_noted.Given as goal

abbrev pub invariant-loop-effect : goal.invariant-loop-effect
invariant-loop-effect g l = record {
  looked : Looked l.firing.task l.firing.operator (λ effect place. (effect < l.effect) × IsUnconditional l.firing.task l.firing.operator effect)
      l.fn.self.family l.self.family l.alone;
  at_effect : IsAtEffect l.firing l.self;
}
