-- One more change is made.
use Rattle.sas_run.proofs.Imports.{IsTrue, length, get_or, set, sym, ap, ◌∙◌, arith, get_or_default, Fact}
use Rattle.sas_run.proofs.Deleted.{notes_on}
use Rattle.sas_run.proofs.PlainSteps.{no_change, one_more_made, one_more_deleted, changes_fit, changes_within, changes_basic}
use Rattle.sas_run.proofs.plain_steps.make_changes.Goals as goal

pub replace-requires-clause-exists : goal.replace-requires-clause-exists
replace-requires-clause-exists g c = search (arith, get_or, no_change, length, changes_within)

pub loop-change-preserved : goal.loop-change-preserved
loop-change-preserved g c =
    let p = c.args.task.now in
    let changes = c.args.changes.now in
    let n = c.loop-change.change-index in
    let change = get_or changes n no_change in
    let some = c.loop-change-test.true in
    let effects = c.requires.plain.effects in
    let now = c.replace.ensures.state ∙ ap (λ (f : Fact). set c.loop-change.state f.var f.value) c.fact.ensures in
    rw now record {
      made = one_more_made p c.args.state.now c.loop-change.state changes n c.loop-change.invariant.made c.requires.plain.apart some change (λ d. get_or_default changes n d no_change some)
          (changes_within p c.args.operator c.requires.operator changes effects c.task.ensures.well_ranged n no_change some)
          (changes_fit p c.args.operator c.requires.operator changes effects c.task.ensures.well_ranged n no_change some);
      deleted = λ noted.
          (let before : IsTrue c.loop-change.deleted.noted = sym c.replace.ensures.notes.noted ∙ noted in
          one_more_deleted p c.args.state.now c.loop-change.state changes n c.loop-change.invariant.made c.requires.plain.apart some change (λ d. get_or_default changes n d no_change some)
          (changes_within p c.args.operator c.requires.operator changes effects c.task.ensures.well_ranged n no_change some) c.loop-change.deleted.facts.items (c.loop-change.invariant.deleted before)
          (changes_basic p c.args.operator c.requires.operator changes effects c.task.ensures.layered n no_change some) c.replace.new.deleted.facts.items (rw c.fact.ensures at (c.replace.ensures.deleted before)));
      notes = notes_on c.args.deleted.now c.loop-change.deleted c.replace.new.deleted c.loop-change.invariant.notes c.replace.ensures.notes;
    }

pub returns-clause-made : goal.returns-clause-made
returns-clause-made g c =
    let made = c.loop-change.invariant.made in
    record {
      state = made.state;
      set = λ k d lt. made.set k d (omega (arith, lt, c.loop-change-test.false));
      kept = λ var others. made.kept var (λ k d lt. others k d (omega (arith, lt, c.loop-change.auto.change-index-end)));
    }
