use Rattle.sas_task_reader.proofs.Imports.{◌≡◌, List, ℕ, ap, ◌∙◌, SoFar, task_behavior, table_node, task_format, TaskLineFits, table_start, reads_explained, refuses_explained, OutlineSoFar, outline_in, kept_of, fault_in, found_in, HasReason}
use Rattle.sas_task_file.proofs.TaskGrammar.{task_grammar}
use Rattle.sas_task_reader.proofs.Outlines.{outline_is}
use Rattle.sas_task_reader.proofs.TaskStanding.{machine_follows, reads_so_far}
use Rattle.sas_task_reader.proofs.task.read_outline.Goals as goal

-- what the machine stores
abbrev Keeps : List (List ℕ) → SoFar → OutlineSoFar → Type 0
Keeps lines s kept = kept ≡ kept_of s

pub returns-in-Ok : goal.returns-in-Ok
returns-in-Ok g c =
    reads_explained task_format TaskLineFits table_node table_start task_grammar (task_behavior Keeps) (machine_follows Keeps) fault_in found_in HasReason g.R.Read.remaining _ _ _ c.in-Ok.machine _ c.in-Ok.ensures (λ b reached short.
    let reads = reads_so_far Keeps c.in-Ok.machine b reached c.in-Ok.ensures.at_end in
    (reached.led.so_far.parts, (reads, short), c.into_outline.ensures ∙ ap outline_in (c.into_kept.ensures ∙ reached.led.kept) ∙ outline_is reached.led.so_far reads.good))

pub returns-in-Err : goal.returns-in-Err
returns-in-Err g c =
    refuses_explained task_format TaskLineFits table_node table_start task_grammar (task_behavior Keeps) (machine_follows Keeps) fault_in found_in HasReason
    c.in-Err.refused _ c.of.ensures.fault c.of.ensures.found c.of.ensures.reason g.R.Read.remaining _ _ _ c.in-Err.ensures
