-- The variables so far are listed.
use Rattle.std.specs.Prelude.{vec_capacity}
use Rattle.sas_plan_reasons.proofs.Imports.{◌≡◌, ◌++◌, ◌≤◌, take}
use Rattle.sas_plan_reasons.proofs.listing.Listing.list_derived.Given as goal

abbrev pub invariant-loop-var : goal.invariant-loop-var
invariant-loop-var l = record {
  vars : l.self.vars.items ≡ l.fn.self.vars.items ++ take l.var-index l.derived;
  room : vec_capacity l.fn.self.vars ≤ vec_capacity l.self.vars;
  few : l.self.few ≡ l.fn.self.few;
}
