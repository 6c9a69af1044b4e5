-- The family with the group consists of the groups of the family and this one.
use Rattle.sas_mutex.proofs.Imports.{arith, common_steps, Bool, true, List, length, set, sym, ap, ◌∙◌, subst, length-set, operator_at, effect_at, group_at, IsGroupOfOr, family_of, IsKept, EffectKeeps, operator_of, IsNotedFor, IsFirstOfEffect}
use Rattle.sas_mutex.proofs.FromNotes.{noted_fewer}
use Rattle.sas_mutex.proofs.VerdictsSoFar.{keeps_itself, put_back, noted_if_broken, with_place, or_itself, is_more}
use Rattle.sas_mutex.proofs.Failing.{first_of_effect_too}
use Rattle.sas_mutex.proofs.failures.first_failure.Goals as goal

pub failure_by_notes-failure-requires-clause-notes : goal.failure_by_notes-failure-requires-clause-notes
failure_by_notes-failure-requires-clause-notes g c =
    let f = c.args.firing.now in
    let p = f.task in
    record {
      one_each = ap length (c.as_slice-2.ensures ∙ c.set.ensures) ∙ (length-set c.args.kept.now c.args.group true ∙ c.requires.notes.one_each);
      noted = subst (λ (xs : List Bool). IsNotedFor p xs f.operator f.effect c.args.recorded.now) (sym (c.as_slice-2.ensures ∙ c.set.ensures))
          (noted_if_broken p c.args.kept.now c.args.group c.requires.has.exists c.requires.notes.one_each f.operator f.effect c.args.recorded.now c.requires.notes.noted c.requires.broken);
    }

pub failure_by_notes-failure-requires-clause-broken : goal.failure_by_notes-failure-requires-clause-broken
failure_by_notes-failure-requires-clause-broken g c keeps =
    let f = c.args.firing.now in
    let p = f.task in
    let o = operator_at p f.operator in
    c.requires.broken (keeps_itself p c.args.kept.now c.args.group c.requires.has.exists c.requires.notes.one_each f.operator f.effect
    (subst (λ (xs : List Bool). EffectKeeps (IsKept p xs) o (group_at p c.args.group) (effect_at o f.effect)) (c.as_slice-2.ensures ∙ c.set.ensures) keeps))

pub returns-clause-first : goal.returns-clause-first
returns-clause-first g c =
    let f = c.args.firing.now in
    let p = f.task in
    let o = operator_of f in
    let group = group_at p c.args.group in
    let kept = c.args.kept.now in
    let each = c.requires.notes.one_each in
    let failure = c.failure_by_notes-failure.result in
    first_of_effect_too (IsKept p (set kept c.args.group true)) (IsGroupOfOr p (family_of kept) group) o group
    (with_place p kept c.args.group c.requires.has.exists each) (or_itself p kept c.args.group c.requires.has.exists each) f.effect failure
    (subst (λ (xs : List Bool). IsFirstOfEffect (IsKept p xs) o group f.effect failure) (c.as_slice-2.ensures ∙ c.set.ensures) c.failure_by_notes-failure.ensures.first)

pub returns-clause-kept : goal.returns-clause-kept
returns-clause-kept g c = grind (arith, common_steps, put_back)

pub returns-clause-notes : goal.returns-clause-notes
returns-clause-notes g c =
    let f = c.args.firing.now in
    let p = f.task in
    let kept = c.args.kept.now in
    let recorded = c.failure_by_notes-failure.new.recorded in
    record {
      one_each = c.requires.notes.one_each;
      noted = noted_fewer p (set kept c.args.group true) kept f.operator f.effect recorded
          (is_more p kept c.args.group c.requires.has.exists c.requires.notes.one_each)
          (subst (λ (xs : List Bool). IsNotedFor p xs f.operator f.effect recorded) (c.as_slice-2.ensures ∙ c.set.ensures) c.failure_by_notes-failure.ensures.notes.noted);
    }
