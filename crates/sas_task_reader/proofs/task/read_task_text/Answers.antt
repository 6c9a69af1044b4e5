use Rattle.sas_task_reader.proofs.Imports.{List, ℕ, ap, ◌∙◌, text, without_returns, task_behavior, table_node, task_format, TaskLineFits, table_start, reads_explained, refuses_explained, fault_in, found_in, HasReason, lines_of}
use Rattle.sas_task_file.proofs.TaskGrammar.{task_grammar}
use Rattle.sas_task_reader.proofs.StoredText.{Stores, text_plain}
use Rattle.sas_task_reader.proofs.TaskStanding.{machine_follows, reads_so_far}
use Rattle.sas_task_reader.proofs.task.read_task_text.Goals as goal

-- if the machine has ended, it has the text of what was read
pub returns-in-Ok : goal.returns-in-Ok
returns-in-Ok g c =
    reads_explained task_format TaskLineFits table_node table_start task_grammar (task_behavior Stores) (machine_follows Stores) fault_in found_in HasReason g.R.Read.remaining _ _ _ c.in-Ok.machine _ c.in-Ok.ensures (λ b reached short.
    let reads = reads_so_far Stores c.in-Ok.machine b reached c.in-Ok.ensures.at_end in (
      reached.led.so_far.parts,
      (reads, short),
      c.into_text.ensures ∙ ap without_returns c.into_kept.ensures ∙ reached.led.kept ∙ ap (λ (ls : List (List ℕ)). without_returns (text ls)) reads.lines
          ∙ text_plain (lines_of task_format.texts reached.led.so_far.parts) (task_grammar.plain _ reads.good),
    ))

pub returns-in-Err : goal.returns-in-Err
returns-in-Err g c =
    refuses_explained task_format TaskLineFits table_node table_start task_grammar (task_behavior Stores) (machine_follows Stores) fault_in found_in HasReason
    c.in-Err.refused _ c.of.ensures.fault c.of.ensures.found c.of.ensures.reason g.R.Read.remaining _ _ _ c.in-Err.ensures
