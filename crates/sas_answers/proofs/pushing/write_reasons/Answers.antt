use Rattle.sas_answers.proofs.Imports.{rules, ◌∙◌}
use Rattle.sas_answers.proofs.pushing.write_reasons.Goals as goal

pub returns : goal.returns
returns g c =
    let verdict = rw c.as_slice.ensures.value at c.push.ensures in
    let name = c.push_lines.ensures.same ∙ (verdict.same ∙ c.new-sink.ensures.same) in
    let status = c.push_lines.ensures.status ∙ (verdict.status ∙ c.new-sink.ensures.status) in
    let ends = rw status at (c.finish.ensures.ends _ _ (c.push_lines.ensures.text _ _ (verdict.text _ _ c.new-sink.ensures.text))) in
    let note = c.finish.ensures.note in
    record { ends = search rules; nothing = search rules; writes = search rules }
