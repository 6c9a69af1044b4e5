use Rattle.sas_task_reader.proofs.Imports.{sym, ap, subst, ◌∙◌, Parts, WellRanged, ValueOf, SoFar, reader_behavior, reads_explained, refuses_explained, table_node, task_format, TaskLineFits, table_start, fault_in, found_in, HasReason}
use Rattle.sas_task_file.proofs.TaskGrammar.{task_grammar}
use Rattle.sas_task_reader.proofs.TaskStanding.{reader_follows, read_task_parts, well_ranged}
use Rattle.sas_task_reader.proofs.task.read_flat_task.Goals as goal

pub into_task-requires : goal.into_task-requires
into_task-requires g c =
    let r = c.in-Ok.ensures.reached in
    subst WellRanged (sym (ap (λ (s : SoFar). s.parts) c.into_kept.ensures)) (well_ranged c.in-Ok.machine r.0 r.3 c.in-Ok.ensures.at_end)

pub returns-in-Ok : goal.returns-in-Ok
returns-in-Ok g c =
    reads_explained task_format TaskLineFits table_node table_start task_grammar reader_behavior reader_follows fault_in found_in HasReason g.R.Read.remaining _ _ _ c.in-Ok.machine _ c.in-Ok.ensures (λ b reached short.
    subst (λ (p : Parts). ValueOf task_format b p) (sym (c.into_task.ensures ∙ ap (λ (s : SoFar). s.parts) c.into_kept.ensures)) (read_task_parts _ c.in-Ok.machine b c.in-Ok.ensures.at_end (reached, short)))

pub returns-in-Err : goal.returns-in-Err
returns-in-Err g c =
    refuses_explained task_format TaskLineFits table_node table_start task_grammar reader_behavior reader_follows fault_in found_in HasReason
    c.in-Err.refused _ c.of.ensures.fault c.of.ensures.found c.of.ensures.reason g.R.Read.remaining _ _ _ c.in-Err.ensures
