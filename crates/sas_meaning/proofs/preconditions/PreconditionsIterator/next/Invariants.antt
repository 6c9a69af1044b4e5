-- All prevail conditions were returned, and the remaining facts are unchanged.
use Rattle.sas_meaning.proofs.Imports.{◌≡◌, [], ◌-◌, operator_at, preconditions_left, IsAtOperator}
use Rattle.sas_meaning.proofs.preconditions.PreconditionsIterator.next.Given as goal

abbrev pub invariant-loop-self : goal.invariant-loop-self
invariant-loop-self g l = record {
  at : IsAtOperator (g.T.Grounded.says l.self-inside.task.now) l.self-inside.operator l.self-inside.effect l.self-inside.effects;
  left : preconditions_left l.self-inside.prevail.now (operator_at (g.T.Grounded.says l.self-inside.task.now) l.self-inside.operator)
      l.self-inside.effect ≡ l.fn.self;
  no_prevail : l.self-inside.prevail.now ≡ [];
}

abbrev pub decreases-loop-self : goal.decreases-loop-self
decreases-loop-self g l = l.self-inside.effects - l.self-inside.effect
