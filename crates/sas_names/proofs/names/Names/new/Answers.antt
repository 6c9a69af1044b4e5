-- After the first operator the table and the list are right for all operators.
use Rattle.sas_names.proofs.Imports.{◌≡◌, subst, arith, AreNamesFrom}
use Rattle.sas_names.proofs.names.Names.new.Goals as goal

pub returns : goal.returns
returns g c =
    let all : c.loop-operator.operator ≡ 0 = omega (arith, c.loop-operator-test.false) in
    subst (λ from. AreNamesFrom (g.T.Grounded.says c.args.task.now) from c.loop-operator.names) all c.loop-operator.invariant.are
