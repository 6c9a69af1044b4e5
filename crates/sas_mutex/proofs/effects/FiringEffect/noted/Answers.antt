-- The record of the group and the fact set apart cover all known facts.
use Rattle.sas_mutex.proofs.TaskFacts.{known_at_exist}
use Rattle.sas_mutex.proofs.Imports.{known_at}
use Rattle.sas_mutex.proofs.NotesOfFacts.{completed}
use Rattle.sas_mutex.proofs.effects.FiringEffect.noted.Goals as goal

pub returns : goal.returns
returns g c =
    let group = rw (← c.self.view_is) at c.requires.group in
    let p = c.self.inside.task.now in
    let operator = c.self.inside.operator in
    let effect = c.self.inside.effect in
    rw (← c.self.view_is) (λ kept notes. completed p c.self.inside.index.now (known_at p operator effect) c.args.recorded.now.known c.args.group c.noted.result c.self.invariant.1
    (known_at_exist p c.self.invariant.0 operator c.self.invariant.2 effect c.self.invariant.3) group notes.noted.are.noted c.noted.ensures)
