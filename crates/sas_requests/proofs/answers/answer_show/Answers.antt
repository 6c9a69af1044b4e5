use Rattle.sas_requests.proofs.Imports.{ap, codes, text, Outline, task_format, OutlineOf, Yes, Output, summary_lines, ShowAnswer, AreTaskReasons}
use Rattle.sas_requests.proofs.FileEnds.{answers_text, task_refused}
use Rattle.sas_requests.proofs.answers.answer_show.Goals as goal

pub returns-in-Ok : goal.returns-in-Ok
returns-in-Ok g c =
    let reported = λ (o : Outline). let x : Output = record { text = text (summary_lines o); status = Yes } in x in
    answers_text g.R.Read.remaining task_format AreTaskReasons OutlineOf (codes "task") c.args.detail.reasons ShowAnswer _ _ g.W.Write.contents _ _ c.in-Ok.outline (reported c.in-Ok.outline) c.write_summary-ended.result c.in-Ok.ensures.plain
    (λ b outlined. (outlined.0, outlined.1, ap reported outlined.2)) c.write_summary-ended.ensures

pub returns-in-Err : goal.returns-in-Err
returns-in-Err g c =
    task_refused g.R.Read.remaining OutlineOf c.args.detail.reasons _ _ g.W.Write.contents _ _ ShowAnswer c.in-Err.refusal c.write_task_refusal.result c.in-Err.ensures c.write_task_refusal.ensures.answers c.write_task_refusal.ensures.long c.write_task_refusal.ensures.reads
