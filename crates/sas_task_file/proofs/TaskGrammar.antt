-- The grammar of task files: the table of places.
use Rattle.sas_task_file.proofs.Imports.{None, Grammar, task_format, TaskLineFits, table_node, table_start, last_slot}
use Rattle.sas_task_file.proofs.Fills.{fill, led, start_led}
use Rattle.sas_task_file.proofs.TaskSections.{task_sound, task_complete}
use Rattle.sas_task_file.proofs.TaskLines.{one_task_line, one_task_kind, some_task_kind}
use Rattle.sas_task_file.proofs.TaskPlain.{task_plain}

pub task_grammar : Grammar task_format TaskLineFits table_node table_start
task_grammar = record {
  sound = task_sound;
  complete = task_complete;
  fillable = λ items x h. let f = fill (last_slot None items) x (led None table_start x items start_led h) in (f.items, f.parts, f.ends);
  plain = task_plain;
  one_item = one_task_line;
  one_kind = one_task_kind;
  some_kind = some_task_kind;
}
