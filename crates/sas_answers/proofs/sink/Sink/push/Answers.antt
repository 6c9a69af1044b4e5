use Rattle.sas_answers.proofs.Imports.{sym, ◌∙◌, refl}
use Rattle.sas_answers.proofs.Putting.{no_failure}
use Rattle.sas_answers.proofs.Pushed.{pushes_lost, pushes_put, pushes_broken}
use Rattle.sas_answers.proofs.sink.Sink.push.Goals as goal

pub returns-then-failed : goal.returns-then-failed
returns-then-failed g c = pushes_lost g.W.Write.contents _ _ (sym c.failed.ensures ∙ c.if-failed.true)

pub returns-in-Err : goal.returns-in-Err
returns-in-Err g c = pushes_broken g.W.Write.contents _ _ _ refl refl refl (sym c.failed.ensures ∙ c.if-failed.false) (c.in-Err.ensures.note.0 refl) c.in-Err.ensures.puts

pub returns-in_default : goal.returns-in_default
returns-in_default g c = pushes_put g.W.Write.contents _ _ _ refl refl refl (sym c.failed.ensures ∙ c.if-failed.false) (no_failure _ c.in_default.ensures.note) c.in_default.ensures.puts
