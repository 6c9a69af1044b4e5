-- The variables so far whose values differ are listed.
use Rattle.sas_plan_reasons.proofs.Imports.{◌≡◌, ◌≤◌, ListsBelow}
use Rattle.std.specs.Prelude.{vec_capacity}
use Rattle.sas_plan_reasons.proofs.listing.Listing.list_part.Given as goal

abbrev pub invariant-loop-var : goal.invariant-loop-var
invariant-loop-var l = record {
  below : ListsBelow l.before l.after l.var l.self.vars.items;
  room : vec_capacity l.fn.self.vars ≤ vec_capacity l.self.vars;
  few : l.self.few ≡ l.fn.self.few;
}
