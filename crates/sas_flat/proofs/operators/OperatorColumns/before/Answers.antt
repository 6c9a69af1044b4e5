use Rattle.sas_flat.proofs.Imports.{arith, Head}
use Rattle.sas_flat.proofs.FoundOperators.{start_is}
use Rattle.sas_flat.proofs.operators.OperatorColumns.before.Goals as goal

pub returns-else-operator-eq0-clause-name : goal.returns-else-operator-eq0-clause-name
returns-else-operator-eq0-clause-name c = start_is (λ (h : Head). h.name) c.args.self.now.heads.items c.args.operator c.index.result.now (omega (arith, c.if-operator-eq0.false)) c.requires c.index.ensures

pub returns-else-operator-eq0-clause-prevail : goal.returns-else-operator-eq0-clause-prevail
returns-else-operator-eq0-clause-prevail c = start_is (λ (h : Head). h.prevail) c.args.self.now.heads.items c.args.operator c.index.result.now (omega (arith, c.if-operator-eq0.false)) c.requires c.index.ensures

pub returns-else-operator-eq0-clause-effects : goal.returns-else-operator-eq0-clause-effects
returns-else-operator-eq0-clause-effects c = start_is (λ (h : Head). h.effects) c.args.self.now.heads.items c.args.operator c.index.result.now (omega (arith, c.if-operator-eq0.false)) c.requires c.index.ensures
