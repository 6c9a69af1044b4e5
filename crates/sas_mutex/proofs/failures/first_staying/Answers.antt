-- One more fact, which can't remain or may.
use Rattle.std.proofs.lemmas.Grind.{common_steps}
use Rattle.sas_mutex.proofs.Imports.{iff_not, ◌≡◌, List, sym, ap, subst, ◌∙◌, arith, Contains, Fact, group_at, each_more, EffectPlace, IsGoneAt}
use Rattle.sas_mutex.proofs.TaskFacts.{group_facts}
use Rattle.sas_mutex.proofs.FirstOfEffect.{none_stays, one_stays}
use Rattle.sas_mutex.proofs.failures.first_staying.Goals as goal

pub returns-then-not-is_gone : goal.returns-then-not-is_gone
returns-then-not-is_gone g c =
    let before = rw (← c.firing.view_is) at c.loop-place.invariant in
    let stays = rw (← c.firing.view_is) at c.is_gone.ensures in
    rw (← c.firing.view_is) (one_stays _ c.args.kept.now c.group-facts.result.now _ c.group-facts.ensures c.loop-place.place _ c.loop-place-test.true before (iff_not stays c.if-not-is_gone.true))

pub loop-place-preserved : goal.loop-place-preserved
loop-place-preserved g c = each_more (IsGoneAt c.args.firing.now c.args.kept.now) c.group-facts.result.now c.loop-place.place _ c.loop-place-test.true c.loop-place.invariant
    (c.is_gone.ensures.0 c.if-not-is_gone.false)

pub is_gone-requires-clause-fact : goal.is_gone-requires-clause-fact
is_gone-requires-clause-fact g c = grind (arith, common_steps, group_facts)

pub returns : goal.returns
returns g c =
    let f = c.args.firing.now in
    let kept = c.args.kept.now in
    let facts = c.group-facts.result.now in
    let same : facts ≡ group_at f.task c.args.group = c.group-facts.ensures ∙ ap (λ (s : EffectPlace). group_at s.task c.args.group) c.firing.view_is in
    none_stays f kept facts (group_at f.task c.args.group) same
    (λ fact among. (let here = subst (λ (xs : List Fact). Contains xs fact) (sym same) among in
    subst (IsGoneAt f kept) here.2 (c.loop-place.invariant here.0 fact (omega (arith, here.1, c.loop-place-test.false)))))
