use Rattle.sas_flat.proofs.Imports.{◌∙◌}
use Rattle.sas_flat.proofs.EffectRows.{effect_count}
use Rattle.sas_flat.proofs.effects.Effects.len.Goals as goal

pub returns : goal.returns
returns c = c.len.ensures ∙ c.self.inside.changes.ok.0 ∙ effect_count c.self.inside.changes.items c.self.inside.conditions c.args.self.now c.self.view_is
