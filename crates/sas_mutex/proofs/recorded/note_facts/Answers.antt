-- One more fact is recorded.
use Rattle.sas_mutex.proofs.Imports.{iff_yes, iff_no, length, get_or, Fact, sym, subst, take_more, take_all, Contains-get_or, Parts, IsIndexOf, arith}
use Rattle.sas_mutex.proofs.Existing.{variable_below, groups_below}
use Rattle.sas_mutex.proofs.KnownFacts.{none_so_far, one_so_far, refused_so_far, from_still, all_known}
use Rattle.sas_mutex.proofs.recorded.note_facts.Goals as goal

pub loop-fact-init : goal.loop-fact-init
loop-fact-init g c = none_so_far c.requires.exist c.widest_of-widest.result c.widest_of-widest.ensures c.requires.blank c.set_apart.ensures

pub note-requires-clause-groups : goal.note-requires-clause-groups
note-requires-clause-groups g c = search (arith, groups_below, length)

pub returns-then-not-note-clause-is : goal.returns-then-not-note-clause-is
returns-then-not-note-clause-is g c =
    let indexed = subst (λ (q : Parts). IsIndexOf q c.indexed.inside.index.now) c.indexed.view_is c.indexed.invariant in
    iff_yes (refused_so_far c.requires.exist indexed c.loop-fact.invariant _ (Contains-get_or c.args.facts.now c.loop-fact.fact-index _ c.loop-fact-test.true) (c.note.ensures.no c.if-not-note.true))

pub returns-then-not-note-clause-from : goal.returns-then-not-note-clause-from
returns-then-not-note-clause-from g c =
    let indexed = subst (λ (q : Parts). IsIndexOf q c.indexed.inside.index.now) c.indexed.view_is c.indexed.invariant in
    from_still c.requires.exist indexed c.loop-fact.invariant _ (Contains-get_or c.args.facts.now c.loop-fact.fact-index _ c.loop-fact-test.true) c.note.ensures.changes

pub loop-fact-preserved : goal.loop-fact-preserved
loop-fact-preserved g c =
    let indexed = subst (λ (q : Parts). IsIndexOf q c.indexed.inside.index.now) c.indexed.view_is c.indexed.invariant in
    rw (take_more c.args.facts.now c.loop-fact.fact-index (record { var = 0; value = 0 }) c.loop-fact-test.true) (one_so_far c.requires.exist indexed c.loop-fact.invariant _
    (Contains-get_or c.args.facts.now c.loop-fact.fact-index _ c.loop-fact-test.true) (c.note.ensures.yes c.if-not-note.false) c.note.ensures.changes)

pub returns-clause-is : goal.returns-clause-is
returns-clause-is g c = iff_no (all_known c.requires.exist (sym (take_all c.loop-fact.fact-index c.args.facts.now c.loop-fact-test.false)) c.loop-fact.invariant).apart

pub note-requires-clause-value : goal.note-requires-clause-value
note-requires-clause-value g c =
    let fact : Fact = get_or c.args.facts.now c.loop-fact.fact-index (record { var = 0; value = 0 }) in
    omega (arith, variable_below c.args.indexed.now fact (c.requires.exist c.loop-fact.fact-index _ c.loop-fact-test.true), c.loop-fact.invariant.from.wide.variables)
