-- No effect sets another fact of the group, and the fact set apart excludes the others.
use Rattle.sas_mutex.proofs.Imports.{◌≡◌, ℕ, Some, ap, subst, ◌∙◌, Change, EffectPlace, AreGoneAt}
use Rattle.sas_mutex.proofs.FromNotes.{IsFiring, excluded_gone}
use Rattle.sas_mutex.proofs.effects.FiringEffect.keeps_by.Goals as goal

pub returns-clause-yes : goal.returns-clause-yes
returns-clause-yes g c = λ t.
    let f = c.args.self.now in
    let kept = c.args.kept.now in
    let excluding = c.args.excluding.now in
    let fits = subst (λ (f : EffectPlace). IsFiring f c.self.inside.index.now c.self.inside.change) c.self.view_is c.self.invariant in
    let group = c.is_for.ensures.group c.if-not-is_for.false in
    let apart = c.is_apart.ensures.0 c.if-not-is_apart.false in
    let on = λ (v : ℕ) (is : excluding.var ≡ Some v). c.is_for.ensures.var c.if-not-is_for.false v is ∙ ap (λ (x : Change). x.var) fits.4 in
    record {
      single = c.is_single.ensures.is.0 t;
      others = subst (AreGoneAt f kept) group (excluded_gone f kept c.args.recorded.now excluding c.requires.notes c.requires.excludes apart on);
    }
