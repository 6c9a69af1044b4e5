use Rattle.std.proofs.Common.{◌≡◌, Err, arith, subst}
use Rattle.sas_requests.specs.declared.inputs.JudgeFault.TheVariants.{Tool}
use Rattle.sas_words.specs.Calls.{bytes_of_words}
use Rattle.sas_tool.specs.Endings.{Puts}
use Rattle.sas_tool.proofs.Judging.{judged_text, unopened_text}
use Rattle.sas_tool.proofs.plan_files.finish_plans.Goals as goal

pub returns-in-TaskNotOpened-clause-text : goal.returns-in-TaskNotOpened-clause-text
returns-in-TaskNotOpened-clause-text g c = λ t is.
    rw c.in-TaskNotOpened.is (subst (λ l. Puts g.E.Write.contents l c.args.errors.now c.finish.new.errors) (unopened_text c.args.plans.why t (bytes_of_words c.args.plans.labels.now) c.args.plans.task.now is) c.finish.ensures.text)

pub returns-in-Judged-Err-Tool-clause-text : goal.returns-in-Judged-Err-Tool-clause-text
returns-in-Judged-Err-Tool-clause-text g c = λ t is.
    let fault = c.in-Judged-Err-Tool.fault in
    let judged : c.in-Judged-Err-Tool.field-0 ≡ Err (Tool fault) = grind arith in
    rw (c.in-Judged-Err-Tool.is, judged) (subst (λ l. Puts g.E.Write.contents l c.args.errors.now c.finish-in-Judged-Err-Tool.new.errors)
    (judged_text c.args.plans.why t (bytes_of_words c.args.plans.labels.now) c.args.plans.task.now fault is) c.finish-in-Judged-Err-Tool.ensures.text)
