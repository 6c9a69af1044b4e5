-- One more fact may be noted.
use Rattle.sas_mutex.proofs.Imports.{List, Bool, subst, Excludes}
use Rattle.sas_mutex.proofs.Supporting.{grown_at_effect, more_excluding}
use Rattle.sas_mutex.proofs.looking.Keeping.note_excluding.Goals as goal

pub returns-in-Some-clause-at_effect : goal.returns-in-Some-clause-at_effect
returns-in-Some-clause-at_effect g c =
    let p = c.args.firing.now.task in
    let before = c.args.self.now.family in
    let after = c.note_excluding.new.self in
    let found = subst (λ (kept : List Bool). Excludes p kept c.in-Some.found) c.as_slice.ensures c.in-Some.ensures in
    grown_at_effect c.args.firing.now c.args.self.now after c.note_excluding.ensures.grown
    (more_excluding p before.kept before.excluding after.excluding c.in-Some.found c.requires.at_effect.room.excluding found c.note_excluding.ensures.excluding) c.requires.at_effect
