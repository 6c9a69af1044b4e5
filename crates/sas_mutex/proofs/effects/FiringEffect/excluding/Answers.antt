-- The fact contradicts one more, or that is on the variable of the effect.
use Rattle.sas_mutex.proofs.Imports.{◌≡◌, ◌≢◌, ◌<◌, List, Some, same_Some, length, get_or, ap, sym, ◌∙◌, subst, arith, each_more, Contains, Contains-get_or, Fact, group_at, FactExists, Contradict, AreDistinct, IsKept, EffectPlace, known_at}
use Rattle.sas_mutex.proofs.Entering.{own_fact_exists}
use Rattle.sas_mutex.proofs.TaskFacts.{known_at_exist}
use Rattle.sas_mutex.proofs.effects.FiringEffect.excluding.Goals as goal
use Rattle.sas_mutex.proofs.effects.FiringEffect.excluding.Goals.{then-not-excludes+else-other-self, else-not-excludes}

pub excludes-requires-clause-fact : goal.excludes-requires-clause-fact
excludes-requires-clause-fact g c =
    let fact = c.in-Some.fact in
    let known = c.requires.notes.noted.are.noted.one_apart fact c.in-Some.is in
    subst (λ (s : EffectPlace). FactExists s.task.variables fact) c.self.view_is
    (known_at_exist c.self.inside.task.now c.self.invariant.0 c.self.inside.operator c.self.invariant.2 c.self.inside.effect c.self.invariant.3 fact
    (subst (λ (s : EffectPlace). Contains (known_at s.task s.operator s.effect) fact) (sym c.self.view_is) known))

pub excludes-requires-clause-other : goal.excludes-requires-clause-other
excludes-requires-clause-other g c =
    let items = c.facts_of-other-items.result.now in
    let other = get_or items c.loop-other.other-index (record { var = 0; value = 0 }) in
    let exists = subst (λ (s : EffectPlace). c.args.group < length s.task.groups) (sym c.self.view_is) c.requires.group in
    let there = subst (λ (xs : List Fact). Contains xs other) c.facts_of-other-items.ensures
    (Contains-get_or items c.loop-other.other-index (record { var = 0; value = 0 }) c.loop-other-test.true) in
    subst (λ (s : EffectPlace). FactExists s.task.variables other) c.self.view_is
    (own_fact_exists c.self.inside.task.now c.self.inside.index.now.own_facts c.self.invariant.0 c.self.invariant.1.facts c.args.group other exists there)

pub loop-other-preserved : goal.loop-other-preserved
loop-other-preserved g c =
    let items = c.facts_of-other-items.result.now in
    let last = c.loop-other.other-index in
    let none : Fact = record { var = 0; value = 0 } in
    let before = c.loop-other.invariant in
    elim c.if-not-excludes.branch [
      | then-not-excludes+else-other-self w ↦ record {
        exclude = each_more (λ (f : Fact). c.if-not-excludes.var ≢ Some f.var → Contradict (IsKept c.args.self.now.task c.args.kept.now) c.in-Some.fact f)
            items last none c.loop-other-test.true
            (λ k d lt differ. before.exclude k d lt (λ was. differ (w.var-is ∙ ap Some (w.if-other-self.false ∙ sym (before.on (get_or items k d).var was)))))
            (λ differ. absurd (differ w.var-is));
        on = λ v is. same_Some v (get_or items last none).var (sym is ∙ w.var-is) ∙ w.if-other-self.false;
      }
      | else-not-excludes w ↦ record {
        exclude = each_more (λ (f : Fact). c.if-not-excludes.var ≢ Some f.var → Contradict (IsKept c.args.self.now.task c.args.kept.now) c.in-Some.fact f)
            items last none c.loop-other-test.true
            (λ k d lt differ. before.exclude k d lt (λ was. differ (w.var-is ∙ was))) (λ _. c.excludes.ensures w.if-not-excludes.false);
        on = λ v is. before.on v (sym w.var-is ∙ is);
      }
    ]

pub returns : goal.returns
returns g c f has differ =
    let items = c.facts_of-other-items.result.now in
    let exists = subst (λ (s : EffectPlace). c.args.group < length s.task.groups) (sym c.self.view_is) c.requires.group in
    let distinct = subst (λ (xs : List Fact). AreDistinct xs (group_at c.self.inside.task.now c.args.group)) (sym c.facts_of-other-items.ensures) (c.self.invariant.1.facts c.args.group exists) in
    let same = subst (λ (s : EffectPlace). AreDistinct items (group_at s.task c.args.group)) c.self.view_is distinct in
    let (k, within, is) = (same.same f).1 has in
    subst (Contradict (IsKept c.args.self.now.task c.args.kept.now) c.in-Some.fact) is
    (c.loop-other.invariant.exclude k f (omega (arith, within, c.loop-other-test.false)) (subst (λ (x : Fact). c.loop-other.var ≢ Some x.var) (sym is) differ))
