use Rattle.sas_requests.proofs.Imports.{codes, refl, TextOf, task_format, Yes, Output, PrintAnswer, AreTaskReasons}
use Rattle.sas_requests.proofs.FileEnds.{answers_exactly, task_refused}
use Rattle.sas_requests.proofs.answers.answer_print.Goals as goal

pub returns-in-Ok : goal.returns-in-Ok
returns-in-Ok g c =
    let reported : Output = record { text = c.in-Ok.text.items; status = Yes } in
    answers_exactly g.R.Read.remaining task_format AreTaskReasons (λ b t. TextOf task_format b t.items) (codes "task") c.args.detail.reasons (PrintAnswer task_format) _ _ g.W.Write.contents _ _ c.in-Ok.text reported c.write.result c.in-Ok.ensures.plain
    (λ b text. (text.0, text.1, rw text.2 refl)) c.write.ensures.writes

pub returns-in-Err : goal.returns-in-Err
returns-in-Err g c =
    task_refused g.R.Read.remaining (λ b t. TextOf task_format b t.items) c.args.detail.reasons _ _ g.W.Write.contents _ _ (PrintAnswer task_format) c.in-Err.refusal c.write_task_refusal.result c.in-Err.ensures c.write_task_refusal.ensures.answers c.write_task_refusal.ensures.long c.write_task_refusal.ensures.reads
