-- The variable was set, and the conditions on it are still to be counted.
use Rattle.sas_axioms.proofs.Imports.{◌≡◌, ◌∷◌, ◌++◌, [], get_or, rule_at, IsAtWork, WorkGoesOn, left_to_do}
use Rattle.sas_axioms.proofs.firing.fire_on.Given as goal

abbrev pub invariant-loop-top : goal.invariant-loop-top
invariant-loop-top g l = record {
  at_work : IsAtWork l.indexed l.state (l.work.stack.items ++ l.var ∷ []) l.work;
  goes_on : WorkGoesOn l.indexed l.fn.state l.fn.work l.state l.work;
  fired : get_or l.state (rule_at l.indexed l.rule).var 0 ≡ (rule_at l.indexed l.rule).new;
}

abbrev pub decreases-loop-top : goal.decreases-loop-top
decreases-loop-top g l = left_to_do l.indexed l.state l.work.stack.items
