use Rattle.std.proofs.Common.{inl, refl}
use Rattle.std.proofs.lemmas.Result.{IfOk-weaker}
use Rattle.sas_tool.specs.Files.{input_left, source_held}
use Rattle.sas_tool.proofs.Running.{invariants_said, left_is, never, says_of}
use Rattle.sas_tool.proofs.runs.run_ready.Goals as goal

pub returns-clause-ran : goal.returns-clause-ran
returns-clause-ran g c =
    let left = input_left g.N.File.Read.remaining g.I.Read.remaining in
    let held = source_held (g.N.NamedFiles.held c.args.inputs.files.now) (g.I.Read.remaining c.args.inputs.standard) in
    let task_held = held c.args.sources.task.now in
    let plan_held = held c.args.sources.plan.now in
    let result = c.answer_opened-result.result.0 in
    record {
      answers = λ b p et ep. inl (
        result,
        refl,
        c.answer_opened-result.ensures.answers b p (left_is left task_held c.in-Some.task b c.in-Some.ensures et)
            (left_is left plan_held c.in-Some-open.plan p c.in-Some-open.ensures ep),
      );
      no_task = λ e. absurd (never left task_held c.in-Some.task c.in-Some.ensures e);
      no_plan = λ b et e. absurd (never left plan_held c.in-Some-open.plan c.in-Some-open.ensures e);
      says = λ about b p before et ep ew. says_of b p _ result (IfOk-weaker result _ _ (λ status h. h b p before (left_is left task_held c.in-Some.task b c.in-Some.ensures et)
          (left_is left plan_held c.in-Some-open.plan p c.in-Some-open.ensures ep) ew) (c.answer_opened-result.ensures.headline about));
      invariants = λ about b before et ew less. invariants_said _ result
          (IfOk-weaker result _ _ (λ status h. h b before (left_is left task_held c.in-Some.task b c.in-Some.ensures et) ew) (c.answer_opened-result.ensures.invariants about)) less;
    }
