-- The trace is that of the plan's run.
use Rattle.sas_plan_reasons.proofs.Imports.{◌≡◌, text, run_lines, List, ℕ, refl, sym, ap, subst, ◌∙◌, ◌++◌, named_ending, leads_on_numbers, leads_to_last, last_state, run_from, GoesThrough, IsSomeAnd, TraceVerdict, reasons_text, Output, Line, writes_as}
use Rattle.sas_plan_reasons.proofs.writing.write_trace.Goals as goal

pub answer_end-requires-clause-ends : goal.answer_end-requires-clause-ends
answer_end-requires-clause-ends g c =
    named_ending c.args.named.now.task.now c.args.named.now.plan.now c.in_ok-end.end.operators.items c.in_ok-end.end.fault c.in_ok-end.ensures.ends

pub write_replay-ended-requires-clause-through : goal.write_replay-ended-requires-clause-through
write_replay-ended-requires-clause-through g c =
    let p = c.args.named.now.task.now in
    let (run, of, ends, are) = named_ending p c.args.named.now.plan.now c.in_ok-end.end.operators.items c.in_ok-end.end.fault c.in_ok-end.ensures.ends in
    (last_state run, subst (λ os. GoesThrough p os (last_state run)) (are ∙ sym c.as_slice-2.ensures.value) (leads_on_numbers p run.steps run.operators (last_state run) (leads_to_last p run of.through)))

pub returns-clause-writes : goal.returns-clause-writes
returns-clause-writes g c =
    let p = c.args.named.now.task.now in
    let plan = c.args.named.now.plan.now in
    let (run, of, ends, are) = named_ending p plan c.in_ok-end.end.operators.items c.in_ok-end.end.fault c.in_ok-end.ensures.ends in
    let verdict = c.in_ok-verdict.verdict in
    let reasons = c.in_ok-verdict.reasons in
    let told : Output = record { text = verdict.text.items ++ reasons_text p plan.steps reasons.items; status = verdict.status } in
    let is_told : verdict.text.items ++ reasons_text p plan.steps c.as_slice.result.now ≡ told.text = ap (λ (ls : List Line). verdict.text.items ++ reasons_text p plan.steps ls) c.as_slice.ensures.value in
    writes_as g.W.Write.contents _ _ c.write_replay-ended.result _ (λ output. IsSomeAnd output (TraceVerdict c.args.with_reasons p plan))
    (record { run = run; through = of.through; answer = told; ends = c.in_ok-verdict.ensures.answer run ends; whole = ap (λ (bytes : List ℕ). text (run_lines p run) ++ bytes) is_told; status = refl })
    (c.write_replay-ended.ensures.writes run (run_from p run of.through) (are ∙ sym c.as_slice-2.ensures.value))
