-- One more fact, which may be the first on its variable. An effect that sets a fact of the group is
-- on the variable of one of them.
use Rattle.sas_mutex.proofs.Imports.{iff_yes, List, sym, subst, ap, arith, Fact, effect_at, group_at, sets, AreDistinct, each_more, EffectPlace, operator_of, IsSingleOn}
use Rattle.sas_mutex.proofs.effects.FiringEffect.is_single_by_facts.Goals as goal
use Rattle.sas_mutex.proofs.effects.FiringEffect.is_single_by_facts.Goals.{else-begins_run-via-then-begins_run+else-not-is_single_on, else-begins_run-via-else-begins_run}

pub loop-place-preserved : goal.loop-place-preserved
loop-place-preserved g c =
    let f = c.args.self.now in
    let kept = c.args.kept.now in
    let facts = c.facts_of-facts.result.now in
    let n = c.loop-place.place in
    let inv = c.loop-place.invariant in
    let no_fact : Fact = record { var = 0; value = 0 } in
    let Single : Fact → Type 0 = λ fact. IsSingleOn f kept c.args.group fact.var in
    elim c.else-begins_run.branch [
      | else-begins_run-via-then-begins_run+else-not-is_single_on w ↦ rw w.recorded-is (record {
        notes = w.is_single_on.ensures.notes;
        single = each_more Single facts n _ c.loop-place-test.true inv.single (w.is_single_on.ensures.yes w.if-not-is_single_on.false);
      })
      | else-begins_run-via-else-begins_run w ↦ rw w.recorded-is (record {
        notes = inv.notes;
        single = (let on = c.begins_run.ensures.follows w.if-begins_run.false in
            each_more Single facts n no_fact c.loop-place-test.true inv.single (subst (IsSingleOn f kept c.args.group) (on.same no_fact) (inv.single on.before no_fact on.early)));
      })
    ]

pub returns-clause-is : goal.returns-clause-is
returns-clause-is g c = iff_yes (λ other lt has.
    (let group = rw (← c.self.view_is) at c.requires.group in
    let p = c.self.inside.task.now in
    let facts = c.facts_of-facts.result.now in
    let fact : Fact = sets (effect_at (operator_of c.args.self.now) other) in
    let distinct = subst (λ (xs : List Fact). AreDistinct xs (group_at p c.args.group)) (sym c.facts_of-facts.ensures) (c.self.invariant.1.facts c.args.group group) in
    let same = subst (λ (s : EffectPlace). AreDistinct facts (group_at s.task c.args.group)) c.self.view_is distinct in
    let among = (same.same fact).1 has in
    c.loop-place.invariant.single among.0 fact (let within = among.1 in let end = c.loop-place-test.false in omega arith) other
    (sym (ap (λ (x : Fact). x.var) among.2)) lt has))
