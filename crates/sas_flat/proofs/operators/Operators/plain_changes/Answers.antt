use Rattle.sas_flat.proofs.Imports.{◌≡◌, List, sym, ap, subst, ◌∙◌, arith, slice_index, slice_range, IfSome, plain_effects, Operator, Effect, effect_ends, Head}
use Rattle.sas_flat.proofs.FoundOperators.{as_many, found, end_is, ordered, within}
use Rattle.sas_flat.proofs.operators.Operators.plain_changes.Goals as goal

pub before-start-requires : goal.before-start-requires
before-start-requires c = omega (arith, c.requires, as_many c.self.inside.columns c.args.self.now c.self.view_is)

pub index-requires : goal.index-requires
index-requires c = omega (arith, c.requires, c.self.inside.columns.heads.ok.0, as_many c.self.inside.columns c.args.self.now c.self.view_is)

pub plain-requires-clause-order : goal.plain-requires-clause-order
plain-requires-clause-order c = rw c.before-start.ensures.effects (ordered c.self.inside.columns c.args.self.now c.self.view_is c.args.operator c.requires (λ (h : Head). h.effects) c.index.result.now c.index.ensures _ c.self.invariant.effects)

pub plain-requires-clause-end : goal.plain-requires-clause-end
plain-requires-clause-end c = within c.self.inside.columns c.args.self.now c.self.view_is c.args.operator c.requires (λ (h : Head). h.effects) c.index.result.now c.index.ensures _ c.self.invariant.effects

pub returns : goal.returns
returns c =
    let columns = c.self.inside.columns in
    let are = ap (λ (o : Operator). o.effects) (found columns c.args.self.now c.self.view_is c.args.operator c.requires) in
    let end = end_is columns c.args.self.now c.self.view_is c.args.operator c.requires (λ (h : Head). h.effects) c.index.result.now c.index.ensures in
    let range =
    are
    ∙ ap (λ n. slice_range columns.effects n (slice_index (effect_ends columns.heads.items) c.args.operator)) (sym c.before-start.ensures.effects)
    ∙ ap (λ n. slice_range columns.effects c.before-start.result.effects n) end in
    subst (λ (effects : List Effect). IfSome c.plain.result (λ changes. effects ≡ plain_effects changes.now)) (sym range) c.plain.ensures
