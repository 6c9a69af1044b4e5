use Rattle.sas_task_reader.proofs.Imports.{sym, ap, subst, ◌∙◌, Ok, Err, ∥∥₁_map, Parts, WellRanged, Fault, ReadsAs, table_node, task_format, TaskLineFits, table_start, SoFar, reader_behavior, Finishes, end_fault, task_view}
use Rattle.sas_task_file.proofs.TaskGrammar.{task_grammar}
use Rattle.sas_task_reader.proofs.TaskStanding.{reader_follows, read_task_parts, ranged}
use Rattle.sas_task_reader.proofs.task_reader.TaskReader.finish.Goals as goal

pub of_parts-requires : goal.of_parts-requires
of_parts-requires c =
    let led = ∥∥₁_map c.args.self.some (λ s. (s.0, (c.in-Ok.ensures.reached s.0 s.1).0)) in
    subst WellRanged (sym (c.into_parts.ensures ∙ ap (λ (s : SoFar). s.parts) c.into_kept.ensures)) (ranged c.in-Ok.machine led c.in-Ok.ensures.at_end)

pub returns-in-Ok : goal.returns-in-Ok
returns-in-Ok c =
    let end = c.in-Ok.ensures in
    let given = c.of_parts.ensures ∙ c.into_parts.ensures ∙ ap (λ (s : SoFar). s.parts) c.into_kept.ensures in
    record {
      read = λ bytes s. subst (λ (p : Parts). ReadsAs task_format c.args.self.reader.limit bytes (Ok p)) (sym given) (read_task_parts c.args.self.reader.limit c.in-Ok.machine bytes end.at_end (end.reached bytes s));
      fault = tt;
      memory = tt;
      kept = λ f e. absurd (end.kept f e);
    }

pub returns-in-Err : goal.returns-in-Err
returns-in-Err c =
    let end = c.in-Err.ensures in
    subst (λ (f : Fault). Finishes task_view c.args.self (Err f)) (sym c.into_fault.ensures) (record {
      read = tt;
      fault = end_fault task_format TaskLineFits table_node table_start task_grammar reader_behavior reader_follows c.args.self.reader c.in-Err.refused end.refused;
      memory = end.refused.memory;
      kept = λ f e. ap (λ (x : Fault). Err x) (end.kept f e);
    })
