use Rattle.sas_requests.proofs.Imports.{ℕ, List, length, refl, arith, ap, sym, ◌∙◌, ◌++◌, inl, inr, None, err_from_is_err_and, summary_of}
use Rattle.sas_requests.proofs.SaidPlans.{placed, reported, unexplained, unsaid_all}
use Rattle.sas_requests.proofs.Turns.{in_turn_written, tool_stopped, tool_written}
use Rattle.sas_requests.proofs.many.answer_plans.Goals as goal
use Rattle.sas_requests.proofs.many.answer_plans.Goals.{then-tally-count, else-tally-count}

pub push_summary-requires : goal.push_summary-requires
push_summary-requires g c = search (arith, placed)

pub returns-in_err-tally-clause-judges : goal.returns-in_err-tally-clause-judges
returns-in_err-tally-clause-judges g c =
    let p = err_from_is_err_and c.from_residual-in_err-tally.result c.from_residual-in_err-tally.ensures.1 in
    rw (p.1, p.2, ← c.in_ok-loaded.ensures) (unexplained c.args.reasons c.in_ok-loaded.loaded (g.S.PlanInputs.bytes c.args.plans.now) (g.S.PlanInputs.labels c.args.plans.now) g.S.PlanInputs.open_gives None _ _ _ c.in_err-tally.ensures.err (c.in_err-tally.ensures.fault None) _)

pub returns-clause-judges : goal.returns-clause-judges
returns-clause-judges g c =
    let labels = c.in_ok-tally.ensures.labels in
    let count = c.count.ensures ∙ ap (λ (l : List (List ℕ)). length l) labels in
    rw (← c.in_ok-loaded.ensures, c.judge_ended.ensures) (reported c.args.reasons c.in_ok-loaded.loaded (g.S.PlanInputs.bytes c.args.plans.now) (g.S.PlanInputs.labels c.args.plans.now) c.answer_each-answered.new.text.items c.in_ok-tally.tally c.in_ok-tally.ensures.ok c.if-tally-count.status c.push_summary.new.text.items
    (c.in_ok-push_summary.ensures ∙ ap (λ (l : List (List ℕ)). c.answer_each-answered.new.text.items ++ summary_of l c.in_ok-tally.tally) labels)
    (elim c.if-tally-count.branch [
      | then-tally-count w ↦ inl (w.if-tally-count.true ∙ count, w.status-is)
      | else-tally-count w ↦ inr (λ e. w.if-tally-count.false (e ∙ sym count), w.status-is)
    ])
    _ c.write_lines.result c.write_lines.ensures.write c.write_lines.ensures.writes.ends)

pub returns-in_err-loaded-clause-judges : goal.returns-in_err-loaded-clause-judges
returns-in_err-loaded-clause-judges g c =
    let starved = err_from_is_err_and c.from_residual.result c.from_residual.ensures.1 in
    rw (starved.1, starved.2) (unsaid_all _ _ _ _ _)

pub returns-in_err-push_summary-clause-judges : goal.returns-in_err-push_summary-clause-judges
returns-in_err-push_summary-clause-judges g c =
    let starved = err_from_is_err_and c.from_residual-in_err-push_summary.result c.from_residual-in_err-push_summary.ensures.1 in
    rw (starved.1, starved.2) (unsaid_all _ _ _ _ _)

pub returns-in_err-push_summary-clause-opens : goal.returns-in_err-push_summary-clause-opens
returns-in_err-push_summary-clause-opens g c = λ task.
    let starved = err_from_is_err_and c.from_residual-in_err-push_summary.result c.from_residual-in_err-push_summary.ensures.1 in
    rw (starved.1, starved.2) (length (g.S.PlanInputs.labels c.args.plans.now), omega arith, c.in_ok-tally.ensures.opened)

pub returns-in_err-loaded-clause-opens : goal.returns-in_err-loaded-clause-opens
returns-in_err-loaded-clause-opens g c = λ task.
    let starved = err_from_is_err_and c.from_residual.result c.from_residual.ensures.1 in
    rw (starved.1, starved.2) (0, omega arith, refl)

pub returns-in_err-tally-clause-opens : goal.returns-in_err-tally-clause-opens
returns-in_err-tally-clause-opens g c =
    let p = err_from_is_err_and c.from_residual-in_err-tally.result c.from_residual-in_err-tally.ensures.1 in
    rw (p.1, p.2) c.in_err-tally.ensures.fault

pub returns-clause-opens : goal.returns-clause-opens
returns-clause-opens g c = λ task. rw c.judge_ended.ensures (in_turn_written g.S.PlanInputs.open_gives task _ _ _ c.write_lines.result c.write_lines.ensures.write c.in_ok-tally.ensures.opened)

pub returns-clause-nothing : goal.returns-clause-nothing
returns-clause-nothing g c = rw c.judge_ended.ensures (tool_stopped _ c.write_lines.result c.write_lines.ensures.write)

pub returns-clause-writes : goal.returns-clause-writes
returns-clause-writes g c = rw c.judge_ended.ensures (tool_written _ c.write_lines.result c.write_lines.ensures.writes.writes)
