-- The fact is recorded for one more group.
use Rattle.sas_mutex.proofs.Imports.{◌≢◌, ◌<◌, List, length, get_or, IsTrue, subst, sym, ◌∙◌, arith, both_ways, Contains-get_or, each_more, common_steps, GroupNote, Several, family_of, group_note, IsNotedToo, NotesForGroup}
use Rattle.sas_mutex.proofs.NotesOfFacts.{since_before, takes_still, takes_here, taken_more}
use Rattle.sas_mutex.proofs.notes.note_in_groups.Goals as goal
use Rattle.sas_mutex.proofs.notes.note_in_groups.Goals.{else-is_several-via-then-is_several+else-is_kept, else-is_several-via-else-is_several}

pub returns-then-is_kept-clause-no : goal.returns-then-is_kept-clause-no
returns-then-is_kept-clause-no c = grind (arith, common_steps, Contains-get_or, since_before)

pub loop-group-preserved : goal.loop-group-preserved
loop-group-preserved c =
    let groups = c.args.groups.now in
    let kept = c.args.kept.now in
    let fact = c.args.fact in
    let n = c.loop-group.group-index in
    let place = get_or groups n 0 in
    let now = c.loop-group.noted in
    let after = c.with-now.result in
    let inv = c.loop-group.invariant in
    let among = Contains-get_or groups n 0 c.loop-group-test.true in
    let below : place < length now = let e = inv.some.as_many in let h = c.requires n 0 c.loop-group-test.true in omega arith in
    let too : IsNotedToo (group_note now place) fact after = subst (λ (xs : List GroupNote). IsNotedToo (group_note xs place) fact after) c.as_slice.ensures c.with-now.ensures in
    let alone : IsTrue (family_of kept place) → after ≢ Several = λ in_family several. elim c.else-is_several.branch [
      | else-is_several-via-then-is_several+else-is_kept w ↦ both_ways (family_of kept place) (sym w.is_kept.ensures ∙ w.if-is_kept.false) in_family
      | else-is_several-via-else-is_several w ↦ both_ways c.is_several.result w.if-is_several.false (c.is_several.ensures.1 several)
    ] in
    rw c.set.ensures record {
      some = taken_more groups kept fact c.args.noted.now now inv.some place after too below among alone;
      all = each_more (NotesForGroup groups kept fact c.args.noted.now _) groups n 0 c.loop-group-test.true
          (λ k d lt. takes_still groups kept fact c.args.noted.now now inv.some place after too below among alone (get_or groups k d) (inv.all k d lt))
          (takes_here groups kept fact c.args.noted.now now inv.some place after too below among alone);
    }
