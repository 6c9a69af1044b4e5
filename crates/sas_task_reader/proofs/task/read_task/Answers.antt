use Rattle.sas_task_reader.proofs.Imports.{sym, ap, subst, ◌∙◌, Err, Parts, WellRanged, ReadsAll, ValueOf, Fault, SoFar, reader_behavior, table_node, task_format, TaskLineFits, table_start, reads_all, refuses_all}
use Rattle.sas_task_file.proofs.TaskGrammar.{task_grammar}
use Rattle.sas_task_reader.proofs.TaskStanding.{reader_follows, read_task_parts, well_ranged}
use Rattle.sas_task_reader.proofs.task.read_task.Goals as goal

pub of_parts-requires : goal.of_parts-requires
of_parts-requires g c =
    let r = c.in-Ok.ensures.reached in
    subst WellRanged (sym (c.into_parts.ensures ∙ ap (λ (s : SoFar). s.parts) c.into_kept.ensures)) (well_ranged c.in-Ok.machine r.0 r.3 c.in-Ok.ensures.at_end)

pub returns-in-Ok : goal.returns-in-Ok
returns-in-Ok g c =
    reads_all task_format TaskLineFits table_node table_start task_grammar reader_behavior reader_follows g.R.Read.remaining _ _ _ _ _ c.in-Ok.ensures (λ b reached short.
    subst (λ (p : Parts). ValueOf task_format b p) (sym (c.of_parts.ensures ∙ c.into_parts.ensures ∙ ap (λ (s : SoFar). s.parts) c.into_kept.ensures)) (read_task_parts _ c.in-Ok.machine b c.in-Ok.ensures.at_end (reached, short)))

pub returns-in-Err : goal.returns-in-Err
returns-in-Err g c =
    subst (λ (f : Fault). ReadsAll g.R.Read.remaining task_format (ValueOf task_format) c.args.reader.now c.read_all.new.device (Err f)) (sym c.into_fault.ensures)
    (refuses_all task_format TaskLineFits table_node table_start task_grammar reader_behavior reader_follows g.R.Read.remaining _ _ _ c.in-Err.refused c.in-Err.ensures)
