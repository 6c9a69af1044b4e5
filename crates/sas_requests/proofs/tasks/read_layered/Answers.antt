use Rattle.sas_requests.proofs.Imports.{ValueOf, task_format, UnlayeredBy}
use Rattle.sas_requests.proofs.FileEnds.{task_refused, task_unlayered}
use Rattle.sas_requests.proofs.tasks.read_layered.Goals as goal

pub returns-in-Err-clause-refused : goal.returns-in-Err-clause-refused
returns-in-Err-clause-refused g c =
    let refused = c.write_task_refusal.ensures in
    task_refused g.R.Read.remaining (ValueOf task_format) c.args.detail.reasons _ _ g.W.Write.contents _ _ (UnlayeredBy c.args.detail.reasons) c.in-Err.refusal c.write_task_refusal.result c.in-Err.ensures refused.answers refused.long refused.reads

pub returns-in-Ok-new-clause-read : goal.returns-in-Ok-new-clause-read
returns-in-Ok-new-clause-read g c = rw c.in-Ok-new.ensures.task c.in-Ok.ensures.plain

pub returns-in-Err-new-clause-refused : goal.returns-in-Err-new-clause-refused
returns-in-Err-new-clause-refused g c =
    task_unlayered g.R.Read.remaining c.args.detail.reasons _ _ g.W.Write.contents _ _ c.in-Ok.read c.in-Err-new.fault c.refuse_unlayered-ended.result c.in-Ok.ensures.plain c.in-Err-new.ensures.first (rw c.in-Err-new.ensures.handed_back at c.refuse_unlayered-ended.ensures)
