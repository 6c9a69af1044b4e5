use Rattle.sas_flat.proofs.Imports.{arith, Head}
use Rattle.sas_flat.proofs.FoundOperators.{as_many, end_is, ordered, effect_number}
use Rattle.sas_flat.proofs.operators.Operators.effects.Goals as goal

pub index-requires : goal.index-requires
index-requires c = omega (arith, c.requires, c.self.inside.columns.heads.ok.0, as_many c.self.inside.columns c.args.self.now c.self.view_is)

pub before-requires : goal.before-requires
before-requires c = omega (arith, c.requires, as_many c.self.inside.columns c.args.self.now c.self.view_is)

pub overflow_sub-result : goal.overflow_sub-result
overflow_sub-result c = rw c.before-2.ensures.effects (ordered c.self.inside.columns c.args.self.now c.self.view_is c.args.operator c.requires (λ (h : Head). h.effects) c.index.result.now c.index.ensures _ c.self.invariant.effects)

pub returns : goal.returns
returns c = omega (arith, c.before-2.ensures.effects, end_is c.self.inside.columns c.args.self.now c.self.view_is c.args.operator c.requires (λ (h : Head). h.effects) c.index.result.now c.index.ensures, effect_number c.self.inside.columns c.args.self.now c.self.view_is c.args.operator c.requires c.self.invariant)
