-- The basis grows, and then the effect is tested by it; or a fact that excludes others is noted.
use Rattle.sas_mutex.proofs.Imports.{arith, IsAtEffect}
use Rattle.sas_mutex.proofs.Supporting.{grown_at_effect, same_excluding, grown_then}
use Rattle.sas_mutex.proofs.looking.Keeping.keeps_by_more.Goals as goal
use Rattle.sas_mutex.proofs.looking.Keeping.keeps_by_more.Given.{Over}
use Rattle.sas_mutex.proofs.looking.Keeping.keeps_by_more.Goals.{After-grow_basis}

at_effect : (g : Over) (c : After-grow_basis g) → IsAtEffect c.args.firing.now (record { family = c.grow_basis.new.self; recorded = c.args.self.now.recorded })
at_effect g c = grown_at_effect c.args.firing.now c.args.self.now c.grow_basis.new.self c.grow_basis.ensures.grown
    (same_excluding c.args.firing.now.task c.args.self.now.family c.grow_basis.new.self c.grow_basis.ensures.excluding c.requires.at_effect.room) c.requires.at_effect

pub keeps_by_basis-requires-clause-at_effect : goal.keeps_by_basis-requires-clause-at_effect
keeps_by_basis-requires-clause-at_effect g c = at_effect g (goal.at.keeps_by_basis-requires-clause-at_effect g c).After-grow_basis

pub note_excluding-requires-clause-at_effect : goal.note_excluding-requires-clause-at_effect
note_excluding-requires-clause-at_effect g c = at_effect g (goal.at.note_excluding-requires-clause-at_effect g c).After-grow_basis

pub returns-clause-grown : goal.returns-clause-grown
returns-clause-grown g c = search (arith, grown_then)
