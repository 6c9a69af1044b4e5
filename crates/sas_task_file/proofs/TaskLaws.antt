-- The laws of task files, for the crates above.
use Rattle.sas_task_file.proofs.Imports.{Laws, laws_of, table_node, task_format, TaskLineFits, table_start}
use Rattle.sas_task_file.proofs.TaskGrammar.{task_grammar}

pub task_laws_hold : Laws task_format
task_laws_hold = laws_of task_format TaskLineFits table_node table_start task_grammar
