-- One more fact is removed; in the end all are.
use Rattle.sas_mutex.proofs.Imports.{length, get_or, subst, arith, Fact, Parts, each_more, common_steps, IsIndexOf}
use Rattle.sas_mutex.proofs.Existing.{groups_below}
use Rattle.sas_mutex.proofs.NotesOfFacts.{IsForgotten, noted_less, forgotten_now, forgotten_still, blank_in_the_end}
use Rattle.sas_mutex.proofs.notes.forget_facts.Goals as goal

pub forget-requires-clause-groups : goal.forget-requires-clause-groups
forget-requires-clause-groups g c = search (arith, groups_below, length)

pub loop-fact-preserved : goal.loop-fact-preserved
loop-fact-preserved g c =
    let p = c.args.indexed.now in
    let index = c.indexed.inside.index.now in
    let facts = c.args.facts.now in
    let n = c.loop-fact.fact-index in
    let new = c.forget.new.notes in
    let inv = c.loop-fact.invariant in
    let indexed = subst (λ (q : Parts). IsIndexOf q index) c.indexed.view_is c.indexed.invariant in
    let fact : Fact = get_or facts n (record { var = 0; value = 0 }) in
    let exists = c.requires.exist n (record { var = 0; value = 0 }) c.loop-fact-test.true in
    record {
      came = each_more (IsForgotten p new) facts n _ c.loop-fact-test.true
          (λ k d below. forgotten_still indexed inv.from fact exists c.forget.ensures (get_or facts k d) (inv.came k d below))
          (forgotten_now indexed inv.from fact exists c.forget.ensures);
      from = noted_less indexed inv.from fact exists c.forget.ensures;
    }

pub returns : goal.returns
returns g c = grind (arith, common_steps, blank_in_the_end)
