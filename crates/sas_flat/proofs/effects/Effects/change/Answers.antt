use Rattle.sas_flat.proofs.Imports.{◌<◌, length, sym, ap, ◌∙◌, arith, change_of, change_in_list}
use Rattle.sas_flat.proofs.EffectRows.{effect_count, effect_at_place}
use Rattle.sas_flat.proofs.effects.Effects.change.Goals as goal

pub bounds-as_slice-index : goal.bounds-as_slice-index
bounds-as_slice-index c = rw c.as_slice.ensures.value (omega (arith, c.requires, effect_count c.self.inside.changes.items c.self.inside.conditions c.args.self.now c.self.view_is))

pub offset_bounds-as_slice-index : goal.offset_bounds-as_slice-index
offset_bounds-as_slice-index c =
    let below : c.args.index < length c.as_slice.result.now = rw c.as_slice.ensures.value (omega (arith, c.requires, effect_count c.self.inside.changes.items c.self.inside.conditions c.args.self.now c.self.view_is)) in
    omega (arith, below, c.as_slice.type_inv)

pub returns : goal.returns
returns c =
    ap (λ l. change_in_list l c.args.index) c.as_slice.ensures.value
    ∙ sym (ap change_of (effect_at_place c.self.inside.changes.items c.self.inside.conditions c.args.self.now c.self.view_is c.args.index c.requires))
