-- The variables so far whose values differ are listed.
use Rattle.std.specs.Prelude.{vec_capacity}
use Rattle.sas_plan_reasons.proofs.Imports.{◌≡◌, ◌-◌, ◌≤◌, ListsBelow}
use Rattle.sas_plan_reasons.proofs.listing.Listing.list_changed.Given as goal

abbrev pub invariant-loop-start : goal.invariant-loop-start
invariant-loop-start l = record {
  within : l.start ≤ l.variables;
  below : ListsBelow l.before l.after l.start l.self.vars.items;
  room : vec_capacity l.fn.self.vars ≤ vec_capacity l.self.vars;
  few : l.self.few ≡ l.fn.self.few;
}

abbrev pub decreases-loop-start : goal.decreases-loop-start
decreases-loop-start l = l.variables - l.start
