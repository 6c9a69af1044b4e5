-- The family with the group consists of the groups of the family and this one.
use Rattle.sas_mutex.proofs.Imports.{Bool, true, false, List, get_or, set, sym, ap, ◌∙◌, subst, iff_yes, iff_other, both_ways, length-set, IsGroupNote, arith, common_steps, known_at}
use Rattle.sas_mutex.proofs.VerdictsSoFar.{keeps_then, keeps_itself, put_back, several_never_fire, noted_with, is_more}
use Rattle.sas_mutex.proofs.FromNotes.{noted_fewer}
use Rattle.sas_mutex.proofs.effects.FiringEffect.keeps_with_itself.Goals as goal

pub returns-then-is_several-clause-is : goal.returns-then-is_several-clause-is
returns-then-is_several-clause-is g c =
    let p = c.args.self.now.task in
    let several = subst (IsGroupNote p (known_at p c.args.self.now.operator c.args.self.now.effect) c.args.group) (c.is_several.ensures.0 c.if-is_several.true)
    (c.noted.ensures c.args.kept.now c.requires.notes) in
    iff_yes (several_never_fire p c.args.kept.now c.args.group c.requires.group c.requires.notes.one_each c.args.self.now.operator c.args.self.now.effect c.args.recorded.now c.requires.notes.noted several)

pub keeps_by_notes-keeps-requires-clause-notes : goal.keeps_by_notes-keeps-requires-clause-notes
keeps_by_notes-keeps-requires-clause-notes g c = grind (arith, common_steps, both_ways, length-set, noted_with)

pub returns : goal.returns
returns g c =
    let f = c.args.self.now in
    let kept = c.args.kept.now in
    let place = c.args.group in
    let each = c.requires.notes.one_each in
    let was = get_or c.as_slice.result.now place false in
    let now = c.as_slice-2.ensures ∙ c.set.ensures in
    let turn = c.keeps_by_notes-keeps.ensures in
    record {
      is = iff_other (rw now at turn.is) (keeps_itself f.task kept place c.requires.group each f.operator f.effect) (keeps_then f.task kept place c.requires.group each f.operator f.effect);
      kept = c.set-2.ensures ∙ (ap (λ (xs : List Bool). set xs place was) c.set.ensures
          ∙ put_back kept place was (ap (λ (xs : List Bool). get_or xs place false) (sym c.as_slice.ensures)));
      notes = record {
        one_each = each;
        noted = noted_fewer f.task (set kept place true) kept f.operator f.effect c.keeps_by_notes-keeps.new.recorded (is_more f.task kept place c.requires.group each) (rw now at turn.notes.noted);
      };
    }
