use Rattle.sas_flat.proofs.Imports.{[], sym, ap, ◌∙◌, arith, Effect}
use Rattle.sas_flat.proofs.EffectRows.{effect_at_place, none_behind}
use Rattle.sas_flat.proofs.effects.Effects.conditions.Goals as goal

pub returns-then-index-len : goal.returns-then-index-len
returns-then-index-len c =
    c.get.ensures
    ∙ sym (ap (λ (e : Effect). e.conditions) (effect_at_place c.self.inside.changes.items c.self.inside.conditions c.args.self.now c.self.view_is c.args.index c.requires))

pub returns-else-index-len : goal.returns-else-index-len
returns-else-index-len c =
    none_behind c.self.inside.conditions c.args.index [] (omega (arith, c.len.ensures, c.if-index-len.false))
    ∙ sym (ap (λ (e : Effect). e.conditions) (effect_at_place c.self.inside.changes.items c.self.inside.conditions c.args.self.now c.self.view_is c.args.index c.requires))
