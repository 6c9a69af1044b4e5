use Rattle.sas_requests.proofs.Imports.{refl, Show, Print, Check, Mutex, task_format, ShowAnswer, PrintAnswer, TaskBy, CheckBy, MutexBy}
use Rattle.sas_requests.proofs.RequestEnds.{of_task, of_steps}
use Rattle.sas_requests.proofs.answers.answer_request.Goals as goal

pub returns-in-Show : goal.returns-in-Show
returns-in-Show g c =
    let detail = c.args.question.detail in
    rw c.in-Show.is (of_task _ _ _ _ _ detail Show refl (TaskBy detail.reasons ShowAnswer) (λ b c o out. out) _ _ _ c.answer_show.result c.requires.plan c.answer_show.ensures)

pub returns-in-Print : goal.returns-in-Print
returns-in-Print g c =
    let detail = c.args.question.detail in
    rw c.in-Print.is (of_task _ _ _ _ _ detail Print refl (TaskBy detail.reasons (PrintAnswer task_format)) (λ b c o out. out) _ _ _ c.answer_print.result c.requires.plan c.answer_print.ensures)

pub returns-in-Check : goal.returns-in-Check
returns-in-Check g c =
    let detail = c.args.question.detail in
    rw c.in-Check.is (of_task _ _ _ _ _ detail Check refl (TaskBy detail.reasons (CheckBy detail.reasons)) (λ b c o out. out) _ _ _ c.answer_check.result c.requires.plan c.answer_check.ensures)

pub returns-in-Mutex : goal.returns-in-Mutex
returns-in-Mutex g c =
    let detail = c.args.question.detail in
    rw c.in-Mutex.is (of_task _ _ _ _ _ detail Mutex refl (TaskBy detail.reasons (MutexBy detail.reasons)) (λ b c o out. out) _ _ _ c.answer_mutex.result c.requires.plan c.answer_mutex.ensures)

pub returns-in-Steps : goal.returns-in-Steps
returns-in-Steps g c = rw c.in-Steps.is (of_steps _ _ _ _ _ c.args.question.detail _ _ _ c.answer_steps.result c.requires.task c.answer_steps.ensures)

pub returns-in-Plan : goal.returns-in-Plan
returns-in-Plan g c = rw c.in-Plan.is c.answer_plan_files.ensures
