-- What the effect keeps assuming the family, it keeps assuming the group itself, too.
use Rattle.sas_mutex.proofs.Imports.{iff_yes, inl, group_at, IsKept, IsGroupOfOr, family_of, operator_of, effect_of}
use Rattle.sas_mutex.proofs.Keeping.{effect_keeps_more}
use Rattle.sas_mutex.proofs.looking.Keeping.keeps_removed.Goals as goal

pub returns-then-keeps_by_excluding-clause-is : goal.returns-then-keeps_by_excluding-clause-is
returns-then-keeps_by_excluding-clause-is g c =
    let f = c.args.firing.now in
    let kept = c.args.self.now.family.kept in
    let group = group_at f.task c.args.group in
    iff_yes (effect_keeps_more (IsKept f.task kept) (IsGroupOfOr f.task (family_of kept) group) (operator_of f) group (effect_of f) (λ facts counts. inl counts)
    (c.keeps_by_excluding.ensures.yes c.if-keeps_by_excluding.true))

pub note_excluding-requires-clause-at_effect : goal.note_excluding-requires-clause-at_effect
note_excluding-requires-clause-at_effect g c =
    rw c.keeps_with_itself-keeps.ensures.kept (record { room = c.keeps_by_excluding.ensures.at_effect.room; notes = c.keeps_with_itself-keeps.ensures.notes })

pub returns-else-keeps-clause-at_effect : goal.returns-else-keeps-clause-at_effect
returns-else-keeps-clause-at_effect g c =
    rw c.keeps_with_itself-keeps.ensures.kept (record { room = c.keeps_by_excluding.ensures.at_effect.room; notes = c.keeps_with_itself-keeps.ensures.notes })

pub returns-else-keeps-clause-is : goal.returns-else-keeps-clause-is
returns-else-keeps-clause-is g c = rw c.keeps_by_excluding.ensures.same at c.keeps_with_itself-keeps.ensures.is
