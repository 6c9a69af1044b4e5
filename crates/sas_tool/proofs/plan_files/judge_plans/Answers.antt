use Rattle.std.proofs.Common.{◌∙◌, ap}
use Rattle.std.proofs.lemmas.List.Elements.{All-map}
use Rattle.std.proofs.lemmas.Result.{IfOk-weaker}
use Rattle.std.specs.String.{string_bytes}
use Rattle.sas_requests.specs.Inputs.{IsLabel}
use Rattle.sas_words.specs.Calls.{bytes_of_words}
use Rattle.sas_tool.specs.Held.{word_held}
use Rattle.sas_tool.proofs.Judging.{have_bytes}
use Rattle.sas_tool.proofs.plan_files.judge_plans.Goals as goal

pub judge-result-requires-clause-labels : goal.judge-result-requires-clause-labels
judge-result-requires-clause-labels g c = All-map IsLabel string_bytes _ c.requires.labels

pub returns-clause-output : goal.returns-clause-output
returns-clause-output g c = λ b cs et all.
    let held = word_held (g.N.NamedFiles.held c.args.plans.inputs.files.now) (g.I.Read.remaining c.args.plans.inputs.standard) in
    c.judge-result.ensures.output b cs (ap g.T.Read.remaining c.new-task.ensures.device ∙ et) (have_bytes held (bytes_of_words c.args.plans.labels.now) cs all)

pub returns-clause-headline : goal.returns-clause-headline
returns-clause-headline g c =
    let held = word_held (g.N.NamedFiles.held c.args.plans.inputs.files.now) (g.I.Read.remaining c.args.plans.inputs.standard) in
    IfOk-weaker c.judge-result.result _ _ (λ status h b before cs et all ew. h b before cs (ap g.T.Read.remaining c.new-task.ensures.device ∙ et)
    (have_bytes held (bytes_of_words c.args.plans.labels.now) cs all) ew) c.judge-result.ensures.headline
