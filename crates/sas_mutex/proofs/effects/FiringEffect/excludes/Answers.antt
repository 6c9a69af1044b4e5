-- Different facts of a group of the family contradict each other.
use Rattle.sas_mutex.proofs.Imports.{◌≢◌, subst, arith, common_steps, EffectPlace}
use Rattle.sas_mutex.proofs.FromNotes.{IsFiring}
use Rattle.sas_mutex.proofs.KnownFacts.{shares_contradicts, contradict_turned}
use Rattle.sas_mutex.proofs.effects.FiringEffect.excludes.Goals as goal

pub returns : goal.returns
returns g c t =
    let fits = subst (λ (s : EffectPlace). IsFiring s c.self.inside.index.now c.self.inside.change) c.self.view_is c.self.invariant in
    let differ : c.args.other ≢ c.args.fact = grind (arith, common_steps) in
    contradict_turned _ _ _ (shares_contradicts _ c.self.inside.index.now _ c.args.other c.args.fact fits.1 c.requires.other c.requires.fact differ (c.some_has.ensures.0 t))
