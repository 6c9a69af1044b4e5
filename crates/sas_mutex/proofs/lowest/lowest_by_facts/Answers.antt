-- One more fact, which may be the first on its variable.
use Rattle.sas_mutex.proofs.Imports.{List, sym, subst, Fact, group_at, AreDistinct}
use Rattle.sas_mutex.proofs.LowestEffects.{one_more_fact, one_fact_more, all_facts_looked_at}
use Rattle.sas_mutex.proofs.lowest.lowest_by_facts.Goals as goal
use Rattle.sas_mutex.proofs.lowest.lowest_by_facts.Goals.{then-begins_run, else-begins_run}

pub loop-place-preserved : goal.loop-place-preserved
loop-place-preserved g c =
    let inv = c.loop-place.invariant in
    elim c.if-begins_run.branch [
      | then-begins_run w ↦ rw w.recorded-is (rw w.lowest-is (record {
        notes = w.lowest_on.ensures.notes;
        lowest = one_more_fact _ _ _ _ _ _ inv.lowest _ _ _ c.loop-place-test.true w.lowest_on.ensures.lowest w.min-lowest.ensures;
      }))
      | else-begins_run w ↦ rw w.recorded-is (rw w.lowest-is (record {
        notes = inv.notes;
        lowest = one_fact_more _ _ _ _ _ _ inv.lowest c.loop-place-test.true (c.begins_run.ensures.follows w.if-begins_run.false);
      }))
    ]

pub returns-clause-lowest : goal.returns-clause-lowest
returns-clause-lowest g c =
    let group = rw (← c.firing.view_is) at c.requires.group in
    let p = c.firing.inside.task.now in
    let distinct = subst (λ (xs : List Fact). AreDistinct xs (group_at p c.args.group)) (sym c.facts_of-facts.ensures) (c.firing.invariant.1.facts c.args.group group.exists) in
    let lowest = rw (← c.firing.view_is) at c.loop-place.invariant.lowest in
    rw (← c.firing.view_is) (all_facts_looked_at _ _ _ _ _ _ lowest c.loop-place-test.false (λ fact among. (distinct.same fact).1 among))
