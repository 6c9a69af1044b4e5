use Rattle.std.proofs.lemmas.Grind.{common_steps}
use Rattle.sas_answers.proofs.Imports.{arith, [], Word, Text, behind_space}
use Rattle.sas_answers.proofs.Pushed.{pushes_item, pushes_then}
use Rattle.sas_answers.proofs.sink.Sink.push_rest.Goals as goal

abbrev no_word : Word
no_word = Text (record { ref_ptr = (0, 0); now = [] })

pub loop-word-preserved : goal.loop-word-preserved
loop-word-preserved g c =
    let contents = g.W.Write.contents in
    pushes_item contents behind_space _ _ no_word _ _ _ c.loop-word-test.true c.loop-word.invariant (pushes_then contents _ _ _ _ _ c.push.ensures c.push_word.ensures)

pub returns : goal.returns
returns g c = grind (arith, common_steps)
