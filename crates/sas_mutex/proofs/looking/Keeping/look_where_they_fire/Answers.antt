-- Effects that never fire keep all groups.
use Rattle.sas_mutex.proofs.Imports.{arith, length, ap, sym, subst, ◌∙◌, true≢false, operator_at, effect_at, group_at, IsKept, NeverFires}
use Rattle.sas_mutex.proofs.FromNotes.{clash_keeps}
use Rattle.sas_mutex.proofs.LookedAt.{looked_grown, alike_never_fires}
use Rattle.sas_mutex.proofs.Supporting.{basis_room}
use Rattle.sas_mutex.proofs.looking.Keeping.look_where_they_fire.Goals as goal
use Rattle.sas_mutex.proofs.looking.Keeping.look_where_they_fire.Goals.{then-not-note, else-not-note}

pub note-requires-clause-one_each : goal.note-requires-clause-one_each
note-requires-clause-one_each g c = ap length c.as_slice.ensures ∙ c.requires.room.one_each

pub look_at_noted-alone-requires : goal.look_at_noted-alone-requires
look_at_noted-alone-requires g c = search (arith)

pub returns-clause-idle : goal.returns-clause-idle
returns-clause-idle g c = search (arith, then-not-note, else-not-note, basis_room)

pub returns-clause-looked : goal.returns-clause-looked
returns-clause-looked g c =
    let f = c.args.firing.now in
    let kept = c.args.self.now.family.kept in
    elim c.if-not-note.branch [
      | then-not-note w ↦ rw (w.self-is, w.alone-is) w.look_at_noted-alone.ensures.looked
      | else-not-note w ↦ rw (w.self-is, w.alone-is) (looked_grown w.grow_basis.ensures.grown
          (λ effect place alike _ _. clash_keeps (IsKept f.task kept) (operator_at f.task f.operator) (group_at f.task place) (effect_at (operator_at f.task f.operator) effect)
          (alike_never_fires f kept effect place alike (subst (NeverFires f) c.as_slice.ensures (c.note.ensures.yes w.if-not-note.false))))
          (λ t. absurd (true≢false (sym t))))
    ]
