-- What is pushed while the steps are made once more is the trace.
use Rattle.sas_plan_reasons.proofs.Imports.{rules, ◌≡◌, ℕ, List, length, refl, sym, ap, subst, ◌∙◌, arith, take_all, initial_lines, text, run_lines, Pushes, pushes_then, goes_none, sink_of, ◌++◌, reasons_text, steps_of, Output, Parts}
use Rattle.sas_plan_reasons.proofs.Noted.{state_after}
use Rattle.sas_plan_reasons.proofs.Standing.{run_text, steps_text, sends_both}
use Rattle.sas_plan_reasons.specs.Replays.{answer_behind}
use Rattle.sas_plan_reasons.proofs.replays.write_replay.Goals as goal

pub returns-clause-writes : goal.returns-clause-writes
returns-clause-writes g c run through same =
    let contents = g.W.Write.contents in
    let its = c.args.its.now in
    let p = its.task.now in
    let operators = c.args.made.now.operators.now in
    let many : length operators ≡ length run.steps = sym (ap length same) ∙ through.operators in
    let front : operators ≡ _ = sym same ∙ sym (take_all (length operators) run.operators (omega (arith, ap length same))) in
    let initial = state_after p c.requires.prepared.layered run through _ c.in_ok-state.state refl (omega arith) (goes_none p c.in_ok-state.state c.in_ok-state.ensures.starts) in
    let steps = c.replay.ensures.sees.pushes run through front in
    let opened = sink_of c.new-tracer.result in
    let begun = sink_of c.push_initial.new.self in
    let sent = sink_of c.replay.new.observer in
    let ended = sink_of c.push_answer.new.self in
    let whole = subst (Pushes contents opened sent) (run_text p run)
    (pushes_then contents opened begun sent _ _
    (subst (λ (s : List ℕ). Pushes contents opened begun (text (initial_lines p.variables s))) (sym initial) c.push_initial.ensures.pushes)
    (subst (λ n. Pushes contents begun sent (steps_text p run n)) many steps)) in
    let told : Output = answer_behind its in
    let pushed : Pushes contents sent ended (c.as_slice.result.now ++ reasons_text c.task.result.now (steps_of its.plan) its.reasons.now) = c.push_answer.ensures in
    let is_told : c.as_slice.result.now ++ reasons_text c.task.result.now (steps_of its.plan) its.reasons.now ≡ told.text =
    ap (λ (bytes : List ℕ). bytes ++ reasons_text c.task.result.now (steps_of its.plan) its.reasons.now) c.as_slice.ensures.value
    ∙ ap (λ (q : Parts). its.verdict.now.text.items ++ reasons_text q (steps_of its.plan) its.reasons.now) c.task.ensures.task in
    let answer = subst (Pushes contents sent ended) is_told pushed in
    let written = sends_both contents (text (run_lines p run)) told (contents c.args.out.now.device) opened sent ended _ _
    c.new-tracer.ensures.status c.new-tracer.ensures.text whole answer (λ text pushed. c.finish-ended.ensures.ends (contents c.args.out.now.device) text pushed) in
    let is = c.out-1.given.1 (sym (c.finish-ended.ensures.same ∙ (answer.same ∙ (whole.same ∙ c.new-tracer.ensures.same)))) in
    record { ends = rw is written; nothing = search rules; writes = rw is c.finish-ended.ensures.note }
