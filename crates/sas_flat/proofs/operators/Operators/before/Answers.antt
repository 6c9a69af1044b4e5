use Rattle.sas_flat.proofs.Imports.{arith}
use Rattle.sas_flat.proofs.FoundOperators.{as_many}
use Rattle.sas_flat.proofs.Sums.{operator_lines}
use Rattle.sas_flat.proofs.operators.Operators.before.Goals as goal

pub before-end-requires : goal.before-end-requires
before-end-requires c = omega (arith, c.requires, as_many c.self.inside.columns c.args.self.now c.self.view_is)

pub returns : goal.returns
returns c =
    let within = as_many c.self.inside.columns c.args.self.now c.self.view_is in
    omega (arith, operator_lines c.self.inside.columns c.args.self.now c.args.count c.self.invariant c.self.view_is (omega (arith, c.requires, within)), c.before-end.ensures.prevail, c.before-end.ensures.effects)
