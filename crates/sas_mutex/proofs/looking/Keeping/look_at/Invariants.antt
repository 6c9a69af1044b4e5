-- The effects so far, and all effects without conditions if one was looked at, were looked at.
use Rattle.sas_mutex.proofs.Imports.{◌≡◌, ◌<◌, ◌⊎◌, true, Looked, IsIdle, IsOfUnconditional}
use Rattle.sas_mutex.proofs.looking.Keeping.look_at.Given as goal

abbrev pub invariant-loop-effect : goal.invariant-loop-effect
invariant-loop-effect g l = record {
  looked : Looked l.indexed l.operator (λ effect place. (effect < l.effect) ⊎ ((l.did_plain ≡ true) × IsOfUnconditional l.indexed l.operator effect place))
      l.fn.self.family l.self.family l.alone;
  idle : IsIdle l.indexed l.self;
}
