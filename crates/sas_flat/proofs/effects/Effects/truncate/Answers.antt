use Rattle.sas_flat.proofs.Imports.{take, ap, ◌∙◌, arith}
use Rattle.sas_flat.proofs.EffectRows.{effect_count, effects_taken, effects_cut}
use Rattle.sas_flat.proofs.effects.Effects.truncate.Goals as goal

pub returns-then-count-len : goal.returns-then-count-len
returns-then-count-len c =
    rw (c.truncate.ensures.items, c.truncate-then-count-len.ensures)
    (effects_taken c.self.inside.changes.items c.self.inside.conditions c.args.count
    (omega (arith, c.requires, effect_count c.self.inside.changes.items c.self.inside.conditions c.args.self.now c.self.view_is))
    ∙ ap (λ l. take c.args.count l) c.self.view_is)

pub returns-else-count-len : goal.returns-else-count-len
returns-else-count-len c =
    rw c.truncate.ensures.items
    (effects_cut c.self.inside.changes.items c.self.inside.conditions c.args.count
    (omega (arith, c.requires, effect_count c.self.inside.changes.items c.self.inside.conditions c.args.self.now c.self.view_is))
    ∙ ap (λ l. take c.args.count l) c.self.view_is)
