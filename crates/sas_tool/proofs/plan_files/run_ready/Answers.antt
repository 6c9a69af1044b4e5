use Rattle.std.proofs.Common.{◌≡◌, ◌∙◌, ◌≤◌, refl, sym, true≢false}
use Rattle.std.proofs.lemmas.Result.{IfOk-weaker}
use Rattle.sas_words.specs.Calls.{bytes_of_words}
use Rattle.sas_tool.specs.Files.{input_left, source_held}
use Rattle.sas_tool.specs.Held.{word_held}
use Rattle.sas_tool.specs.Labels.{is_input, times_named}
use Rattle.sas_tool.specs.declared.plan_files.PlansEnded.TheVariants as ended
use Rattle.sas_tool.proofs.Judging.{judged_ran, labels_of, refused_ran}
use Rattle.sas_tool.proofs.Running.{left_is, never}
use Rattle.sas_tool.proofs.plan_files.run_ready.Goals as goal

pub returns-then-not-are_label_texts : goal.returns-then-not-are_label_texts
returns-then-not-are_label_texts g c = refused_ran c.args.plans.why (bytes_of_words c.args.plans.labels.now) (2 ≤ times_named (is_input c.args.plans.task.now) c.args.plans.labels.now) _ _ _ (c.args.out.now ≡ c.args.out.now) refl
    ended.NoLabel refl (λ all. true≢false (sym (c.are_label_texts.ensures.1 (labels_of c.args.plans.labels.now all)) ∙ c.if-not-are_label_texts.true))

pub returns-in-Some : goal.returns-in-Some
returns-in-Some g c =
    let left = input_left g.N.File.Read.remaining g.I.Read.remaining in
    let files = g.N.NamedFiles.held c.args.inputs.files.now in
    let standard = g.I.Read.remaining c.args.inputs.standard in
    let task = source_held files standard c.args.plans.task.now in
    judged_ran c.args.plans.why (bytes_of_words c.args.plans.labels.now) (2 ≤ times_named (is_input c.args.plans.task.now) c.args.plans.labels.now) task (word_held files standard)
    (g.W.Write.contents c.args.out.now.device) (g.W.Write.contents c.judge_plans.new.out.device) _ c.judge_plans.result
    (λ e. never left task c.in-Some.task c.in-Some.ensures e)
    (λ b cs et all. c.judge_plans.ensures.output b cs (left_is left task c.in-Some.task b c.in-Some.ensures et) all)
    (IfOk-weaker c.judge_plans.result _ _ (λ status h b before cs et all ew. h b before cs (left_is left task c.in-Some.task b c.in-Some.ensures et) all ew) c.judge_plans.ensures.headline)
