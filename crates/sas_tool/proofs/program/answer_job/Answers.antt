use Rattle.std.proofs.Common.{◌∙◌, ◌∷◌, ap, codes, subst}
use Rattle.sas_words.specs.Calls.{bytes_of_words, name_of}
use Rattle.sas_tool.specs.Jobs.{Asks}
use Rattle.sas_tool.proofs.Answering.{files_do}
use Rattle.sas_tool.proofs.Jobbing.{no_plans, no_question, same_question}
use Rattle.sas_tool.proofs.Judging.{plans_do}
use Rattle.sas_tool.proofs.program.answer_job.Goals as goal

pub returns-in-Files-clause-does : goal.returns-in-Files-clause-does
returns-in-Files-clause-does g c = λ n why question files is asks.
    let run = c.run_files-run.result in
    let its = subst (Asks (name_of n) why files) c.in-Files.is asks in
    files_do (g.N.NamedFiles.held c.args.inputs.files.now) (g.I.Read.remaining c.args.inputs.standard) c.in-Files.question question (name_of n) c.in-Files.task c.in-Files.plan files _ _ _ _
    run.ended run.last.now _ (same_question n why question c.in-Files.question is its.0) its.1 its.2 c.run_files-run.ensures.ran c.run_files-run.ensures.last c.finish.ensures.status c.finish.ensures.text

pub returns-in-Plans-clause-does : goal.returns-in-Plans-clause-does
returns-in-Plans-clause-does g c = λ n why question files is asks. absurd (no_question n why question is (subst (Asks (name_of n) why files) c.in-Plans.is asks).0)

pub returns-in-Files-clause-plans : goal.returns-in-Files-clause-plans
returns-in-Files-clause-plans g c = λ why t labels asks. absurd (no_plans why c.in-Files.question (subst (Asks (codes "plans") why (t ∷ labels)) c.in-Files.is asks).0)

pub returns-in-Plans-clause-plans : goal.returns-in-Plans-clause-plans
returns-in-Plans-clause-plans g c = λ why t labels asks.
    let its = subst (Asks (codes "plans") why (t ∷ labels)) c.in-Plans.is asks in
    plans_do c.in-Plans.why why (g.N.NamedFiles.held c.args.inputs.files.now) (g.I.Read.remaining c.args.inputs.standard) t labels c.in-Plans.task c.as_slice.result.now _ _ _ _
    c.run_plans-ended.result _ its.1 its.2 (ap bytes_of_words c.as_slice.ensures.value ∙ its.3) c.run_plans-ended.ensures c.finish_plans.ensures.status c.finish_plans.ensures.text
