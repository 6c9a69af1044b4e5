-- The given values of the variables of the effects so far are written and removed.
use Rattle.sas_run.proofs.Imports.{◌≡◌, ℕ, ◌<◌, None, IsTrue, operator_at, effect_at, IsState, NotesOn, given_to, value_after, IsGivenTo}
use Rattle.sas_run.proofs.Deleted.{DeletedSoFar}
use Rattle.sas_run.proofs.Giving.{HasGiven}
use Rattle.sas_run.proofs.steps.write_given.Given as goal

abbrev pub invariant-loop-effect : goal.invariant-loop-effect
invariant-loop-effect g l = record {
  state : IsState l.task.variables l.state;
  on_effects : IsGivenTo l.task (operator_at l.task l.operator) l.given;
  taken : (k : ℕ) → k < l.effect → given_to l.given (effect_at (operator_at l.task l.operator) k).var ≡ None;
  written : (var : ℕ) → value_after l.given l.state var ≡ value_after l.fn.given l.fn.state var;
  deleted : IsTrue l.deleted.noted → DeletedSoFar l.task (HasGiven l.given) l.effect l.fn.state l.state l.deleted.facts.items;
  notes : NotesOn l.fn.deleted l.deleted;
}
