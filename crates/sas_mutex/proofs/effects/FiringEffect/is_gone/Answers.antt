-- The notes decide whether the fact can remain.
use Rattle.sas_mutex.proofs.Imports.{ap, Change, both_ways, iff_from, iff_not, ◌∙◌, subst, inl, inr, iff_other, EffectPlace}
use Rattle.sas_mutex.proofs.FromNotes.{IsFiring, removes_is_removed, removed_is_removes}
use Rattle.sas_mutex.proofs.effects.FiringEffect.is_gone.Goals as goal

pub returns-then-clashes : goal.returns-then-clashes
returns-then-clashes g c = iff_from (λ t ne. inl (c.clashes.ensures.0 t)) (λ f. absurd (both_ways _ f c.if-clashes.true))

pub returns-else-clashes : goal.returns-else-clashes
returns-else-clashes g c =
    let fits = subst (λ (f : EffectPlace). IsFiring f c.self.inside.index.now c.self.inside.change) c.self.view_is c.self.invariant in
    iff_other c.is_removed.ensures
    (λ removes ne. inr (removes_is_removed c.args.self.now c.self.inside.index.now fits c.args.kept.now c.args.recorded.now c.requires.notes c.args.fact c.requires.fact removes))
    (λ gone. elim (gone (λ same. c.if-self-fact.false (ap (λ (x : Change). x.var) fits.4 ∙ same))) [
      | inl clash ↦ absurd (iff_not c.clashes.ensures c.if-clashes.false clash)
      | inr removed ↦ removed_is_removes c.args.self.now c.self.inside.index.now fits c.args.kept.now c.args.recorded.now c.requires.notes c.args.fact c.requires.fact removed
    ])
