-- The changes are those of the effects, which have no conditions.
use Rattle.sas_mutex.proofs.Imports.{iff_other, operator_at}
use Rattle.sas_mutex.proofs.PlainEffects.{change_removes, removes_by_change}
use Rattle.sas_mutex.proofs.effects.FiringEffect.is_removed.Goals as goal

pub returns-in-Some-plain_changes : goal.returns-in-Some-plain_changes
returns-in-Some-plain_changes g c =
    let o = operator_at c.self.inside.task.now c.self.inside.operator in
    let changes = c.in-Some-plain_changes.changes.now in
    let are = c.in-Some-plain_changes.ensures in
    rw (← c.self.view_is) (iff_other c.one_changes.ensures (change_removes o changes are c.args.notes.now c.args.fact) (removes_by_change o changes are c.args.notes.now c.args.fact))
