-- The verdict on one more group considers the effect.
use Rattle.sas_mutex.proofs.Imports.{get_or, below_more, arith, cases_eq, All-from_get_or, ConsidersAt}
use Rattle.sas_mutex.proofs.joint.decide_groups.Goals as goal

pub loop-group-preserved : goal.loop-group-preserved
loop-group-preserved g c = search (arith, get_or, below_more, cases_eq)

pub returns-clause-these : goal.returns-clause-these
returns-clause-these g c =
    All-from_get_or (ConsidersAt c.args.firing.now c.loop-group.keeping.family.kept c.loop-group.found.verdicts) c.args.groups.now 0
    (λ k lt. c.loop-group.invariant.these k (omega arith))
