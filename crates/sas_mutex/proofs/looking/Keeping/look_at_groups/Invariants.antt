-- The groups so far were looked at.
use Rattle.sas_mutex.proofs.Imports.{◌≡◌, ◌<◌, ℕ, get_or, Looked, IsOfEffect, IsAtEffect}
use Rattle.sas_mutex.proofs.looking.Keeping.look_at_groups.Given as goal

abbrev pub invariant-loop-group : goal.invariant-loop-group
invariant-loop-group g l = record {
  looked : Looked l.firing.task l.firing.operator
      (λ effect place. IsOfEffect l.firing.effect effect place × (k : ℕ) × (k < l.group-index) × (get_or l.groups k 0 ≡ place)) l.fn.self.family l.self.family l.alone;
  at_effect : IsAtEffect l.firing l.self;
}
