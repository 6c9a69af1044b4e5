use Rattle.sas_answers.proofs.Imports.{refl}
use Rattle.sas_answers.proofs.Pushed.{pushes_held}
use Rattle.sas_answers.proofs.sink.Sink.push_numbered.Goals as goal

pub returns-then-hold_numbered : goal.returns-then-hold_numbered
returns-then-hold_numbered g c = pushes_held g.W.Write.contents _ _ _ refl (c.hold_numbered.ensures.yes c.if-hold_numbered.true) c.hold_numbered.ensures.written

pub returns : goal.returns
returns g c = rw (c.hold_numbered.ensures.no c.if-hold_numbered.false) at c.push_each.ensures
