-- One more operator keeps the group.
use Rattle.sas_groups.proofs.Imports.{[], below_more, arith, All-from_get_or, Operator, Keeps, Alone}
use Rattle.sas_groups.proofs.group.first_breaking.Goals as goal

pub loop-operator-preserved : goal.loop-operator-preserved
loop-operator-preserved g c = below_more _ _ c.loop-operator.invariant (c.keeps.ensures.0 c.if-not-keeps.false)

pub returns-clause-none : goal.returns-clause-none
returns-clause-none g c =
    All-from_get_or (λ (o : Operator). Keeps (Alone c.args.group.now) o c.args.group.now) c.args.task.now.operators (record { name = []; prevail = []; effects = []; cost = 0 })
    (λ k lt. c.loop-operator.invariant k (omega arith))
