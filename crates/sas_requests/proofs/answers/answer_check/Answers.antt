use Rattle.std.proofs.lemmas.Result.{err_from_is_err_and}
use Rattle.sas_requests.proofs.Imports.{arith, codes, ValueOf, task_format, CheckBy, UnlayeredBy, AreTaskReasons}
use Rattle.sas_requests.proofs.FileEnds.{answers_exactly, answers_more, starved}
use Rattle.sas_requests.proofs.RequestEnds.{check_yes, check_no}
use Rattle.sas_requests.proofs.answers.answer_check.Goals as goal

pub returns-in_err-accept_layers-in-Layered : goal.returns-in_err-accept_layers-in-Layered
returns-in_err-accept_layers-in-Layered g c = search (arith, err_from_is_err_and, answers_exactly, task_format, codes, check_yes, starved)

pub returns-in_ok-accept_layers-in-Layered : goal.returns-in_ok-accept_layers-in-Layered
returns-in_ok-accept_layers-in-Layered g c =
    let explains = c.args.detail.reasons in
    let p = c.in-Layered.layered in
    let writes = rw (← c.in_ok-accept_layers-in-Layered.ensures) at c.write.ensures.writes in
    rw (rw c.in-Layered.is at c.read_layered.ensures.silent) at (answers_exactly g.R.Read.remaining task_format AreTaskReasons (ValueOf task_format) (codes "task") explains (CheckBy explains) _ _ g.W.Write.contents _ _ p _ c.write.result (rw c.in-Layered.is at c.read_layered.ensures.read)
    (λ b value. (p, value, check_yes explains p (rw c.in-Layered.is at c.read_layered.ensures.layered))) writes)

pub returns-in-Ended : goal.returns-in-Ended
returns-in-Ended g c =
    let explains = c.args.detail.reasons in
    answers_more g.R.Read.remaining task_format AreTaskReasons (ValueOf task_format) (codes "task") explains (UnlayeredBy explains) _ _ g.W.Write.contents _ _ (CheckBy explains) (check_no explains) c.in-Ended.ended (rw c.in-Ended.is at c.read_layered.ensures.refused)
