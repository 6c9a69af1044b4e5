-- The fact that the effect sets exists, so the index contains all groups with it.
use Rattle.sas_mutex.proofs.SetFacts.{groups_setting}
use Rattle.sas_mutex.proofs.effects.FiringEffect.groups.Goals as goal

pub returns : goal.returns
returns g c = rw (← c.self.view_is, c.larger_groups_of.ensures, c.fact.ensures) (groups_setting c.self.inside.task.now c.self.invariant.0 c.self.inside.operator c.self.inside.effect
    c.self.invariant.2 c.self.invariant.3 c.self.inside.change c.self.invariant.4 c.self.inside.index.now c.self.invariant.1)
