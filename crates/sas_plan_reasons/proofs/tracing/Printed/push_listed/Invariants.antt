-- The variables up to a place of the list were printed.
use Rattle.sas_plan_reasons.proofs.Imports.{◌≡◌, ℕ, Pushes}
use Rattle.sas_plan_reasons.proofs.Changing.{said, says, PrintedUpTo, ListedUpTo}
use Rattle.sas_plan_reasons.proofs.tracing.Printed.push_listed.Given as goal

abbrev pub invariant-loop-index : goal.invariant-loop-index
invariant-loop-index g l = record {
  listing : l.self.listing ≡ l.fn.self.listing;
  upto : ℕ;
  at : ListedUpTo l.task l.fn.self.values l.state l.fn.self.listing.vars.items l.index upto;
  printed : PrintedUpTo l.task l.fn.self.values l.state l.self.values upto;
  pushes : Pushes g.W.Write.contents l.fn.sink l.sink (said (says l.task l.fn.self.values l.state) upto);
}
