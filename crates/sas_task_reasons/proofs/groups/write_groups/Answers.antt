use Rattle.sas_task_reasons.proofs.Imports.{ℕ, rules, List, sym, subst, ap, ◌∙◌, Option, IsSomeAnd, Parts, text, AreJointVerdicts, Status, Output, ends_counting_as, Reason, GroupsAnswerWith, why_lines}
use Rattle.sas_task_reasons.proofs.GroupAnswers.{answers_with}
use Rattle.sas_task_reasons.proofs.groups.write_groups.Goals as goal

pub returns : goal.returns
returns g c =
    let p = c.args.task.now in
    let all = c.as_slice-all.result.now in
    let joint = subst (AreJointVerdicts p) (sym c.as_slice-all.ensures) c.in_ok-found.ensures.verdicts in
    let reasons = c.in_ok-reasons.reasons in
    let is = ap (λ (q : Parts). text (why_lines q all c.as_slice.result.now)) c.task.ensures.task
    ∙ ap (λ (rs : List (Option Reason)). text (why_lines p all rs)) c.as_slice.ensures in
    let made : List ℕ → Status → Output = λ lines status. record { text = lines; status = status } in
    let pushed = made (text (why_lines c.task.result.now all c.as_slice.result.now)) c.groups_status.result in
    let whole = ap (λ (lines : List ℕ). made lines c.groups_status.result) is ∙ ap (made (text (why_lines p all reasons))) c.groups_status.ensures in
    let name = c.push_groups.ensures.same ∙ c.new-sink.ensures.same in
    let status = c.push_groups.ensures.status ∙ c.new-sink.ensures.status in
    let wanted = rw (← c.as_slice-all.ensures) at c.in_ok-reasons.ensures.wanted in
    let answer = answers_with c.args.with_reasons p all reasons joint c.in_ok-reasons.ensures.none wanted in
    let ends = ends_counting_as pushed _ (λ (output : Option Output). IsSomeAnd output (GroupsAnswerWith c.args.with_reasons p)) _ (subst (GroupsAnswerWith c.args.with_reasons p) (sym whole) answer)
    (rw status at (c.finish.ensures.ends _ _ (c.push_groups.ensures.text _ _ c.new-sink.ensures.text))) in
    let note = c.finish.ensures.note in
    record { ends = search rules; nothing = search rules; writes = search rules }
