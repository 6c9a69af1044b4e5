-- What the effect keeps assuming the basis, it keeps assuming the family, which contains
-- the basis.
use Rattle.sas_mutex.proofs.Imports.{arith, length}
use Rattle.sas_mutex.proofs.FallingGroups.{basis_keeps}
use Rattle.sas_mutex.proofs.FromNotes.{noted_fewer}
use Rattle.sas_mutex.proofs.looking.Keeping.keeps_by_basis.Goals as goal

pub keeps_with_itself-requires-clause-notes : goal.keeps_with_itself-requires-clause-notes
keeps_with_itself-requires-clause-notes g c = search (arith, length, noted_fewer)

pub returns-then-has_basis-clause-kept : goal.returns-then-has_basis-clause-kept
returns-then-has_basis-clause-kept g c t in_family =
    let p = c.args.firing.now.task in
    let family = c.args.self.now.family in
    let within = c.has_basis.ensures c.if-has_basis.true (length p.groups) c.requires.at_effect.room.basis in
    basis_keeps family.basis family.kept c.args.firing.now.operator c.args.firing.now.effect c.args.group
    (λ n w. record { exists = w.exists; chosen = within n w.chosen }) in_family (c.keeps_with_itself.ensures.is.0 t)
