use Rattle.sas_flat.proofs.EffectRows.{no_effects}
use Rattle.sas_flat.proofs.effects.Effects.clear.Goals as goal

pub returns : goal.returns
returns c = no_effects c.clear.new.self.items c.clear-2.new.self c.clear.ensures.items
