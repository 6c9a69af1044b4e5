use Rattle.sas_flat.proofs.Imports.{sym, ap, arith, Operator, Head}
use Rattle.sas_flat.proofs.FoundOperators.{as_many, found, end_is, ordered, within}
use Rattle.sas_flat.proofs.operators.Operators.prevail.Goals as goal

pub before-start-requires : goal.before-start-requires
before-start-requires c = omega (arith, c.requires, as_many c.self.inside.columns c.args.self.now c.self.view_is)

pub index-requires : goal.index-requires
index-requires c = omega (arith, c.requires, c.self.inside.columns.heads.ok.0, as_many c.self.inside.columns c.args.self.now c.self.view_is)

pub slice_bounds-result-count : goal.slice_bounds-result-count
slice_bounds-result-count c = rw c.before-start.ensures.prevail (ordered c.self.inside.columns c.args.self.now c.self.view_is c.args.operator c.requires (λ (h : Head). h.prevail) c.index.result.now c.index.ensures _ c.self.invariant.prevail)

pub slice_bounds-result-start : goal.slice_bounds-result-start
slice_bounds-result-start c = omega (arith, slice_bounds-result-count c, within c.self.inside.columns c.args.self.now c.self.view_is c.args.operator c.requires (λ (h : Head). h.prevail) c.index.result.now c.index.ensures _ c.self.invariant.prevail)

pub slice_bounds-result-end : goal.slice_bounds-result-end
slice_bounds-result-end c = omega (arith, within c.self.inside.columns c.args.self.now c.self.view_is c.args.operator c.requires (λ (h : Head). h.prevail) c.index.result.now c.index.ensures _ c.self.invariant.prevail)

pub returns : goal.returns
returns c =
    rw (c.as_slice.ensures.value, c.before-start.ensures.prevail, ← end_is c.self.inside.columns c.args.self.now c.self.view_is c.args.operator c.requires (λ (h : Head). h.prevail) c.index.result.now c.index.ensures)
    (sym (ap (λ (o : Operator). o.prevail) (found c.self.inside.columns c.args.self.now c.self.view_is c.args.operator c.requires)))
