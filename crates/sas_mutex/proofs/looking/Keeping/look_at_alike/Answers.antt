-- Effects that never fire, assuming the basis, keep all groups under this assumption.
use Rattle.sas_mutex.proofs.Imports.{length, ap, subst, ◌∙◌, inr, NeverFires}
use Rattle.sas_mutex.proofs.LookedAt.{looked_by, alike_never_fires}
use Rattle.sas_mutex.proofs.FallingGroups.{clash_by_basis}
use Rattle.sas_mutex.proofs.looking.Keeping.look_at_alike.Goals as goal

pub note-clash-requires-clause-one_each : goal.note-clash-requires-clause-one_each
note-clash-requires-clause-one_each g c = ap length c.as_slice.ensures ∙ c.look_where_they_fire.ensures.idle.room.basis.one_each

pub returns-then-look_where_they_fire-clause-looked : goal.returns-then-look_where_they_fire-clause-looked
returns-then-look_where_they_fire-clause-looked g c = rw c.if-look_where_they_fire.true at c.look_where_they_fire.ensures.looked

pub returns-clause-looked : goal.returns-clause-looked
returns-clause-looked g c =
    let f = c.args.firing.now in
    let turn = c.look_where_they_fire in
    let basis = turn.new.self.family.basis in
    looked_by turn.ensures.looked
    (λ effect place is. is)
    (λ t. inr (λ effect place alike. clash_by_basis f.task basis f.operator effect place
    (alike_never_fires f basis effect place alike (subst (NeverFires f) c.as_slice.ensures (c.note-clash.ensures.yes t)))))
