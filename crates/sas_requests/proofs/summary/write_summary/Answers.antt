use Rattle.sas_requests.proofs.Imports.{◌≡◌, ℕ, List, rules, subst, ◌∙◌, Option, Some, Appends, Yes, Output, EndsCounting, pushes_then}
use Rattle.sas_requests.proofs.Summaries.{summary_is}
use Rattle.sas_requests.proofs.summary.write_summary.Goals as goal

pub returns : goal.returns
returns g c =
    let pushed = pushes_then _ _ _ _ _ _ (pushes_then _ _ _ _ _ _ c.push.ensures c.push_state.ensures) c.push_goal.ensures in
    let name = pushed.same ∙ c.new-sink.ensures.same in
    let status = pushed.status ∙ c.new-sink.ensures.status in
    let is = summary_is c.args.outline.now _ (c.as_slice.ensures.value ∙ c.in_ok-numbers.ensures) in
    let sent = Appends (g.W.Write.contents c.args.out.now.device) (g.W.Write.contents c.finish.new.self.0.device) in
    let ends = subst (λ (t : List ℕ). EndsCounting (λ (output : Option Output). output ≡ Some (record { text = t; status = Yes })) sent c.finish.result) is
    (rw status at (c.finish.ensures.ends _ _ (pushed.text _ _ c.new-sink.ensures.text))) in
    let note = c.finish.ensures.note in
    record { ends = search rules; nothing = search rules; writes = search rules }
