use Rattle.sas_flat.proofs.Imports.{◌≤◌, length, sym, ap, ◌∙◌, arith, slice_range}
use Rattle.sas_flat.proofs.EffectRows.{effect_count, plain_range}
use Rattle.sas_flat.proofs.effects.Effects.plain.Goals as goal

pub offset_bounds-as_slice-start : goal.offset_bounds-as_slice-start
offset_bounds-as_slice-start c =
    let within : c.args.start ≤ length c.as_slice.result.now =
    rw c.as_slice.ensures.value (omega (arith, c.requires.order, c.requires.end, effect_count c.self.inside.changes.items c.self.inside.conditions c.args.self.now c.self.view_is)) in
    omega (arith, within, c.as_slice.type_inv)

pub slice_bounds-result-end : goal.slice_bounds-result-end
slice_bounds-result-end c =
    rw c.as_slice.ensures.value (omega (arith, c.requires.end, effect_count c.self.inside.changes.items c.self.inside.conditions c.args.self.now c.self.view_is))

pub returns-else-start-len : goal.returns-else-start-len
returns-else-start-len c =
    rw c.as_slice.ensures.value
    (ap (λ l. slice_range l c.args.start c.args.end) (sym c.self.view_is)
    ∙ plain_range c.self.inside.changes.items c.self.inside.conditions c.args.start c.args.end
    (omega (arith, c.len.ensures, c.if-start-len.false))
    (omega (arith, c.requires.order, c.requires.end, effect_count c.self.inside.changes.items c.self.inside.conditions c.args.self.now c.self.view_is)))
