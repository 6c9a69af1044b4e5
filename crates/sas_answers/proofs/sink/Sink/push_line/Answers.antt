use Rattle.sas_answers.proofs.Imports.{refl}
use Rattle.sas_answers.proofs.Pushed.{pushes_held}
use Rattle.sas_answers.proofs.sink.Sink.push_line.Goals as goal

pub returns-then-hold_line : goal.returns-then-hold_line
returns-then-hold_line g c = pushes_held g.W.Write.contents _ _ _ refl (c.hold_line.ensures.yes c.if-hold_line.true) c.hold_line.ensures.written
