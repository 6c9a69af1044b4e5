-- The facts of the group are one run, and its first one is on the variable of the effect.
use Rattle.sas_mutex.proofs.Imports.{arith, common_steps, ◌≡◌, ◌<◌, List, length, get_or_default, sym, subst, ap, ◌∙◌, Change, Fact, AreDistinct, AreOnOne, AreRuns, EffectPlace, group_at}
use Rattle.sas_mutex.proofs.FromNotes.{IsFiring}
use Rattle.sas_mutex.proofs.GoneRuns.{one_run}
use Rattle.sas_mutex.proofs.effects.FiringEffect.is_on_own_variable.Goals as goal

pub returns-then-first-self : goal.returns-then-first-self
returns-then-first-self g c one fact has =
    let items = c.facts_of.result.now in
    let runs = c.index-as_slice-group.result in
    let exists = subst (λ (s : EffectPlace). c.args.group < length s.task.groups) (sym c.self.view_is) c.requires in
    let distinct = subst (λ (xs : List Fact). AreDistinct xs (group_at c.self.inside.task.now c.args.group)) (sym c.facts_of.ensures) (c.self.invariant.1.facts c.args.group exists) in
    let same = subst (λ (s : EffectPlace). AreDistinct items (group_at s.task c.args.group)) c.self.view_is distinct in
    let fits = subst (λ (f : EffectPlace). IsFiring f c.self.inside.index.now c.self.inside.change) c.self.view_is c.self.invariant in
    let among = (same.same fact).1 has in
    let alone : length runs ≡ 1 = grind (arith, common_steps) in
    let fall : AreRuns items runs = grind (arith, common_steps, get_or_default) in
    let (var, on) = one_run items runs fall alone in
    sym (ap (λ (x : Fact). x.var) among.2) ∙ on among.0 fact among.1 ∙ sym (on 0 (record { var = 0; value = 0 }) (omega (arith, c.in-len1-up.len_at_least))) ∙ c.if-first-self.true
    ∙ ap (λ (x : Change). x.var) fits.4
