-- A group that the effect doesn't keep is removed. One that it keeps assuming the basis
-- isn't.
use Rattle.sas_mutex.proofs.Imports.{iff_not, ◌<◌, ◌≡◌, Bool, true, true≢false, List, length, sym, ap, subst, ◌∙◌, arith, both_ways, IsIn, family_of, common_steps, Family, EffectPlace, operator_of, IsPair, Looked, HasGrown, IsNotedAt, EffectKeepsGroup}
use Rattle.sas_mutex.proofs.LookedAt.{looked_none, looked_pair, looked_removed, removed_room}
use Rattle.sas_mutex.proofs.Supporting.{same_grown, same_excluding, grown_at_effect}
use Rattle.sas_mutex.proofs.FromNotes.{noted_fewer}
use Rattle.sas_mutex.proofs.looking.Keeping.look_at_group.Goals as goal
use Rattle.sas_mutex.proofs.looking.Keeping.look_at_group.Given.{Over}
use Rattle.sas_mutex.proofs.looking.Keeping.look_at_group.Goals.{After-as_slice-2, After-take_away}

pub bounds-as_slice-group : goal.bounds-as_slice-group
bounds-as_slice-group g c = omega (arith, c.requires.group, c.requires.at_effect.room.one_each, ap length c.as_slice.ensures)

-- ---- a group that was removed before

pub returns-then-not-as_slice-group-clause-looked : goal.returns-then-not-as_slice-group-clause-looked
returns-then-not-as_slice-group-clause-looked g c = grind (arith, common_steps, looked_none, both_ways)

-- ---- one that the effect keeps, assuming the basis

pub returns-then-keeps_by_basis-clause-looked : goal.returns-then-keeps_by_basis-clause-looked
returns-then-keeps_by_basis-clause-looked g c =
    rw c.keeps_by_basis.ensures.same (looked_pair c.args.firing.now.effect c.args.group (same_grown c.args.self.now.family)
    (c.keeps_by_basis.ensures.kept c.if-keeps_by_basis.true) (λ _. c.keeps_by_basis.ensures.basis c.if-keeps_by_basis.true))

-- ---- one that it keeps, assuming the family, which is as it was

pub returns-then-keeps_by_excluding-clause-at_effect : goal.returns-then-keeps_by_excluding-clause-at_effect
returns-then-keeps_by_excluding-clause-at_effect g c = search (arith, grown_at_effect, same_excluding)

pub returns-then-keeps_by_excluding-clause-looked : goal.returns-then-keeps_by_excluding-clause-looked
returns-then-keeps_by_excluding-clause-looked g c =
    let f = c.args.firing.now in
    let first = c.keeps_by_basis.ensures.same in
    looked_pair f.effect c.args.group
    (subst (λ (family : Family). HasGrown family c.grow_basis.new.self) (c.keeps_by_excluding.ensures.same ∙ first) c.grow_basis.ensures.grown)
    (λ _. subst (λ (family : Family). EffectKeepsGroup f family.kept c.args.group) first (c.keeps_by_excluding.ensures.yes c.if-keeps_by_excluding.true))
    (λ t. absurd (true≢false (sym t)))

same : (g : Over) (c : After-as_slice-2 g) → c.keeps_by_excluding.new.self.family ≡ c.args.self.now.family
same g c = c.keeps_by_excluding.ensures.same ∙ c.keeps_by_basis.ensures.same

here : (g : Over) (c : After-as_slice-2 g) → IsIn c.args.firing.now.task (family_of c.keeps_by_excluding.new.self.family.kept) c.args.group
here g c = grind (arith, common_steps, same)

pub keeps_by_notes-requires-clause-group : goal.keeps_by_notes-requires-clause-group
keeps_by_notes-requires-clause-group g c = grind (arith, common_steps, here)

pub keeps_by_more-requires-clause-at_effect : goal.keeps_by_more-requires-clause-at_effect
keeps_by_more-requires-clause-at_effect g c = search (arith)

pub returns-then-keeps_by_notes-clause-looked : goal.returns-then-keeps_by_notes-clause-looked
returns-then-keeps_by_notes-clause-looked g c =
    let f = c.args.firing.now in
    let same = same g (goal.at.returns-then-keeps_by_notes-clause-looked g c).After-as_slice-2 in
    looked_pair f.effect c.args.group (subst (λ (family : Family). HasGrown family c.keeps_by_more.new.self.family) same c.keeps_by_more.ensures.grown)
    (λ _. subst (λ (kept : List Bool). EffectKeepsGroup f kept c.args.group) (c.as_slice-2.ensures ∙ ap (λ (family : Family). family.kept) same)
    (c.keeps_by_notes.ensures.is.0 c.if-keeps_by_notes.true))
    c.keeps_by_more.ensures.basis

-- ---- and one that it doesn't keep

pub take_away-requires-clause-kept : goal.take_away-requires-clause-kept
take_away-requires-clause-kept g c = (here g (goal.at.take_away-requires-clause-kept g c).After-as_slice-2).chosen

pub take_away-requires-clause-room : goal.take_away-requires-clause-room
take_away-requires-clause-room g c = c.keeps_by_excluding.ensures.at_effect.room.room

removed : (g : Over) (c : After-take_away g)
    → Looked c.args.firing.now.task c.args.firing.now.operator (IsPair c.args.firing.now.effect c.args.group) c.keeps_by_excluding.new.self.family c.take_away.new.self true
removed g c =
    let f = c.args.firing.now in
    let turn = c.take_away.ensures in
    looked_removed f.task f.operator f.effect c.args.group c.keeps_by_excluding.new.self.family c.take_away.new.self turn.kept turn.fallen turn.basis turn.supports turn.excluding turn.room
    c.keeps_by_excluding.ensures.at_effect.room (here g (goal.at.After-take_away g c).After-as_slice-2)
    (subst (λ (s : EffectPlace). s.operator < length s.task.operators) c.firing.view_is c.firing.invariant.2)
    (subst (λ (s : EffectPlace). s.effect < length (operator_of s).effects) c.firing.view_is c.firing.invariant.3)
    c.requires.has
    (λ keeps. iff_not c.keeps_by_notes.ensures.is c.if-keeps_by_notes.false (subst (λ (kept : List Bool). EffectKeepsGroup f kept c.args.group) (sym c.as_slice-2.ensures) keeps))

pub returns-clause-looked : goal.returns-clause-looked
returns-clause-looked g c =
    let f = c.args.firing.now in
    subst (λ (family : Family). Looked f.task f.operator (IsPair f.effect c.args.group) family c.take_away.new.self true)
    (same g (goal.at.returns-clause-looked g c).After-as_slice-2) (removed g (goal.at.returns-clause-looked g c).After-take_away)

pub returns-clause-at_effect : goal.returns-clause-at_effect
returns-clause-at_effect g c =
    let f = c.args.firing.now in
    let before = c.keeps_by_excluding.new.self.family in
    let after = c.take_away.new.self in
    let turn = c.take_away.ensures in
    let looked = removed g (goal.at.returns-clause-at_effect g c).After-take_away in
    let room = removed_room f.task f.operator f.effect c.args.group before after turn.kept turn.fallen turn.basis turn.supports turn.excluding turn.room
    c.keeps_by_excluding.ensures.at_effect.room (here g (goal.at.returns-clause-at_effect g c).After-as_slice-2) in
    record {
      room = room;
      notes = record {
        one_each = room.one_each;
        noted = noted_fewer f.task before.kept after.kept f.operator f.effect c.keeps_by_notes.new.recorded looked.falls.less
            (subst (λ (kept : List Bool). IsNotedAt f kept c.keeps_by_notes.new.recorded) c.as_slice-2.ensures c.keeps_by_notes.ensures.notes).noted;
      };
    }
