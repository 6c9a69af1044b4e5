-- The variables that were listed, in order.
use Rattle.sas_plan_reasons.proofs.Imports.{IsNonDecreasingBy-from_sort}
use Rattle.sas_plan_reasons.proofs.ListedChanges.{covers_permuted}
use Rattle.sas_plan_reasons.proofs.tracing.Printed.list.Goals as goal

pub returns-clause-cover : goal.returns-clause-cover
returns-clause-cover c =
    covers_permuted c.args.self.now.values c.args.state.now c.list.new.self.vars.items c.sort_unstable.new.self.items c.sort_unstable.ensures.permutation c.list.ensures.covers

pub returns-clause-ascending : goal.returns-clause-ascending
returns-clause-ascending c = IsNonDecreasingBy-from_sort (λ (var : _). var) c.sort_unstable.new.self.items c.sort_unstable.ensures.sorted
