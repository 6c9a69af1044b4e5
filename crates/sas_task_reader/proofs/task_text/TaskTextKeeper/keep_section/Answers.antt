use Rattle.sas_task_reader.proofs.Imports.{ℕ, List, ◌++◌, take, ap, ◌∙◌}
use Rattle.sas_task_reader.proofs.StoredText.{keeps_text}
use Rattle.sas_task_reader.proofs.task_text.TaskTextKeeper.keep_section.Goals as goal

pub returns : goal.returns
returns g c =
    let (a, ahead) = rw c.in-Some.is at c.in_ok-kept.ensures.found in
    keeps_text c.args.section c.args.ranges.now c.args.bytes.now _ _ a c.in-Some.kept ahead (c.in_ok-extend_from_slice.ensures.items ∙ ap (λ (x : List ℕ). x ++ take c.in-Some.kept.front.bytes c.args.bytes.now) c.self.view_is)
