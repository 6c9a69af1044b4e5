use Rattle.sas_c.proofs.Imports.{refl}
use Rattle.sas_c.proofs.FoundStates.{state_longer}
use Rattle.sas_c.proofs.telling.tell_values.Goals as goal

pub returns-then-not-copy : goal.returns-then-not-copy
returns-then-not-copy c = state_longer c.args.values.now c.args.all _ _ _ (c.if-not-copy.ensures.longer refl) (c.if-not-copy.ensures.spared refl) c.copy.ensures.size
