use Rattle.sas_task_file.proofs.TaskFilling.{task_is_filled, one_completion, fillings_in_bytes}
use Rattle.sas_task_file.proofs.TaskGrammar.{task_grammar}
use Rattle.sas_task_file.proofs.TaskLaws.{task_laws_hold}
use Rattle.sas_task_file.proofs.laws.task_laws.Goals as goal

pub returns-clause-laws : goal.returns-clause-laws
returns-clause-laws c = task_laws_hold

pub returns-clause-filled : goal.returns-clause-filled
returns-clause-filled c = task_is_filled

pub returns-clause-one_completion : goal.returns-clause-one_completion
returns-clause-one_completion c = one_completion

pub returns-clause-fillings : goal.returns-clause-fillings
returns-clause-fillings c = fillings_in_bytes

pub returns-clause-grammar : goal.returns-clause-grammar
returns-clause-grammar c = task_grammar
