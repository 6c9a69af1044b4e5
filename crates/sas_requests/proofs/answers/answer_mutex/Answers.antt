use Rattle.sas_requests.proofs.Imports.{codes, ValueOf, task_format, GroupsAnswerWith, MutexBy, UnlayeredBy, AreTaskReasons}
use Rattle.sas_requests.proofs.FileEnds.{answers_value, answers_more}
use Rattle.sas_requests.proofs.RequestEnds.{mutex_yes, mutex_no}
use Rattle.sas_requests.proofs.answers.answer_mutex.Goals as goal

pub returns-in-Layered : goal.returns-in-Layered
returns-in-Layered g c =
    let explains = c.args.detail.reasons in
    let p = c.in-Layered.layered in
    let layered = rw c.in-Layered.is at c.read_layered.ensures.layered in
    rw (rw c.in-Layered.is at c.read_layered.ensures.silent) at (answers_value g.R.Read.remaining task_format AreTaskReasons (ValueOf task_format) (codes "task") explains (MutexBy explains) _ _ g.W.Write.contents _ _ p (GroupsAnswerWith explains p) (λ b value o is. (p, value, mutex_yes explains p o layered is)) c.write_groups-ended.result (rw c.in-Layered.is at c.read_layered.ensures.read) c.write_groups-ended.ensures)

pub returns-in-Ended : goal.returns-in-Ended
returns-in-Ended g c =
    let explains = c.args.detail.reasons in
    answers_more g.R.Read.remaining task_format AreTaskReasons (ValueOf task_format) (codes "task") explains (UnlayeredBy explains) _ _ g.W.Write.contents _ _ (MutexBy explains) (mutex_no explains) c.in-Ended.ended (rw c.in-Ended.is at c.read_layered.ensures.refused)
