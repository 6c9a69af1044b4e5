use Rattle.sas_answers.proofs.Imports.{subst, Pushes}
use Rattle.sas_answers.proofs.Pushed.{pushes_then}
use Rattle.sas_answers.proofs.WordLines.{line_is}
use Rattle.sas_answers.proofs.sink.Sink.push_words.Goals as goal

pub returns : goal.returns
returns g c =
    let words = pushes_then g.W.Write.contents _ _ _ _ _ c.push.ensures c.push_rest.ensures in
    subst (Pushes g.W.Write.contents _ _) (line_is c.args.line) (pushes_then g.W.Write.contents _ _ _ _ _ words c.push-2.ensures)
