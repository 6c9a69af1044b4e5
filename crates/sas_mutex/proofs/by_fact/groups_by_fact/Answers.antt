-- Each iteration adds a group. The numbers of facts, which are the keys, are below the number of
-- facts.
use Rattle.sas_mutex.proofs.Imports.{◌≡◌, ◌++◌, List, length, sym, ap, subst, ◌∙◌, arith, IfOk-weaker, Fact, by_key, common_steps, facts_at, facts_below, entries_of, AreByFact}
use Rattle.sas_mutex.proofs.Entering.{EnteredUpTo, group_numbered, group_facts_exist, group_has, entered_more, entered_low, entered_by_fact}
use Rattle.sas_mutex.proofs.by_fact.groups_by_fact.Goals as goal

pub enter_facts-requires-clause-known : goal.enter_facts-requires-clause-known
enter_facts-requires-clause-known g c = grind (arith, common_steps, group_numbered)

pub loop-group-preserved : goal.loop-group-preserved
loop-group-preserved g c =
    let p = c.args.layered.now in
    let own = c.args.own.now in
    let firsts = c.args.firsts.now in
    let group = c.loop-group.group in
    let entries = c.loop-group.entries.items in
    let entered = c.in_ok-enter_facts.ensures ∙ ap (λ (facts : List Fact). entries ++ entries_of firsts group facts) c.facts_of.ensures in
    rw entered (entered_more firsts (facts_at p own) group entries c.loop-group.invariant)

pub by_key-requires : goal.by_key-requires
by_key-requires g c =
    let p = c.args.layered.now in
    let own = c.args.own.now in
    let firsts = c.args.firsts.now in
    let done : c.loop-group.group ≡ length p.groups = let count = (rw c.task-task.ensures.task at c.groups-group-end.ensures) in omega (arith, count) in
    let up : EnteredUpTo firsts (facts_at p own) (length p.groups) c.loop-group.entries.items = rw done at c.loop-group.invariant in
    rw (c.as_slice.ensures.value, c.requires.all) (entered_low p firsts (facts_at p own) (length p.groups) c.loop-group.entries.items c.requires.firsts
    (group_facts_exist p own c.task-task.ensures.well_ranged c.requires.own) up)

pub returns : goal.returns
returns g c =
    let p = c.args.layered.now in
    let own = c.args.own.now in
    let firsts = c.args.firsts.now in
    let entries = c.loop-group.entries.items in
    let done : c.loop-group.group ≡ length p.groups = let count = (rw c.task-task.ensures.task at c.groups-group-end.ensures) in omega (arith, count) in
    let up : EnteredUpTo firsts (facts_at p own) (length p.groups) entries = rw done at c.loop-group.invariant in
    let all : AreByFact p firsts (by_key entries (facts_below p (length p.variables))) =
    entered_by_fact p firsts (facts_at p own) (length p.groups) entries c.requires.firsts (group_facts_exist p own c.task-task.ensures.well_ranged c.requires.own) (group_has p own c.requires.own) up in
    IfOk-weaker c.by_key.result (λ lists. lists ≡ by_key c.as_slice.result.now c.args.facts) (AreByFact p firsts)
    (λ lists is. subst (AreByFact p firsts) (sym (is ∙ ap (λ es. by_key es c.args.facts) c.as_slice.ensures.value ∙ ap (λ n. by_key entries n) c.requires.all)) all)
    c.by_key.ensures
