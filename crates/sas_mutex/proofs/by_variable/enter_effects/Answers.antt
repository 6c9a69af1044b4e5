-- One more effect has an entry.
use Rattle.sas_mutex.proofs.Imports.{All-nil, All-cons, All-append, arith, common_steps, place_of}
use Rattle.sas_mutex.proofs.ByVariable.{effect_entered}
use Rattle.sas_mutex.proofs.by_variable.enter_effects.Goals as goal

pub loop-effect-preserved : goal.loop-effect-preserved
loop-effect-preserved g c = grind (arith, common_steps, place_of, All-append, All-cons, All-nil, effect_entered)
