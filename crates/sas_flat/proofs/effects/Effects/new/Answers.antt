use Rattle.sas_flat.proofs.EffectRows.{no_effects}
use Rattle.sas_flat.proofs.effects.Effects.new.Goals as goal

pub returns : goal.returns
returns c = no_effects c.new.result.items c.new-2.result c.new.ensures.items
