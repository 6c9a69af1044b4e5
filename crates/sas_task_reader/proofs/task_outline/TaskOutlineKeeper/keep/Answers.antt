use Rattle.sas_task_reader.proofs.Imports.{ap, ◌∙◌, on_ok_weaker, OutlineSoFar, kept_of}
use Rattle.sas_task_reader.proofs.Outlines.{IsOfRest, seen_after}
use Rattle.sas_task_reader.proofs.task_outline.TaskOutlineKeeper.keep.Goals as goal

pub returns-in_default : goal.returns-in_default
returns-in_default c =
    let of : IsOfRest c.args.event = record {
      facts = c.in_default.not-Facts;
      fact = c.in_default.not-Fact;
      group = c.in_default.not-Group;
      effects = c.in_default.not-Effects;
      effect = c.in_default.not-Effect;
      operator = c.in_default.not-Operator;
      rule = c.in_default.not-Rule;
    } in
    record {
      kept = on_ok_weaker c.keep.result (λ kept lines s is.
          let inside = c.self.view_is ∙ is in
          seen_after c.self.inside.seen c.keep.new.self s inside c.args.event c.args.said.now c.args.line.now of
          (kept lines (kept_of s).rest (ap (λ (k : OutlineSoFar). k.rest) inside))) c.keep.ensures.kept;
      err = c.keep.ensures.err;
    }
